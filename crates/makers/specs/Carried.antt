-- What is carried into a recorder. Assumes nothing.
use Rattle.std.specs.Prelude.{ℕ, ◌-◌, ◌/◌, if◌then◌else◌, List, [], ◌∷◌, map, length, ℤ, pos, Option, unwrap_or}
use Rattle.std.specs.List.{range_with_len}
use Rattle.record.specs.Rules.{fitting}
use Rattle.record.specs.Rows.{rows}

-- the states that are taken one after another, up to the first that is denied
abbrev pub taken : ℕ → ℕ → List (List ℤ) → List (List ℤ)
taken room width [] = []
taken room width (s ∷ ss) = if fitting room width s then s ∷ taken (room - 1) width ss else []

-- what a recorder with this room holds after the whole states of a flat list were offered to it
abbrev pub filled : ℕ → ℕ → List ℤ → List (List ℤ)
filled room width numbers = taken room width (rows width (length numbers / width) numbers)

-- a reading, and 0 where there is none
abbrev pub or_zero : Option ℤ → ℤ
or_zero reading = unwrap_or reading (pos 0)

-- the readings for a state, variable by variable
abbrev pub read_state : (ℕ → ℕ → Option ℤ) → ℕ → ℕ → List ℤ
read_state readings state width = map (λ (v : ℕ). or_zero (readings v state)) (range_with_len 0 width)
