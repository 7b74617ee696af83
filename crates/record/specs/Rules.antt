-- The rules that every kind of recorder keeps. Assumes nothing.
use Rattle.std.specs.Prelude.{ℕ, ◌≤◌, min, Bool, ◌&&◌, List, length, ℤ, Some, None, Option, ◌==◌, nat_le, nat_lt, unsigned_abs}
use Rattle.std.specs.List.{list_all, slice_get}

-- the most numbers to a state
abbrev pub most_width : ℕ
most_width = 16

-- the most states that a recorder takes
abbrev pub most_states : ℕ
most_states = 65535

-- the largest value, and how far below 0 a value may be
abbrev pub most_value : ℕ
most_value = 1000000

-- a width that is allowed
abbrev pub Allowed : ℕ → Type 0
Allowed width = (1 ≤ width) × (width ≤ most_width)

-- whether a width is allowed
abbrev pub allowed_width : ℕ → Bool
allowed_width width = nat_le 1 width && nat_le width most_width

-- a number of states, cut at the most that any recorder takes
abbrev pub cut : ℕ → ℕ
cut n = min n most_states

-- the room for each width is at most that number
abbrev pub Capped : (ℕ → ℕ) → Type 0
Capped capacity = (width : ℕ) → capacity width ≤ most_states

-- whether a value may be recorded
abbrev pub small : ℤ → Bool
small z = nat_le (unsigned_abs z) most_value

-- whether each value may be recorded
abbrev pub all_small : List ℤ → Bool
all_small = list_all small

-- whether a state is taken, by the room and the width
abbrev pub fitting : ℕ → ℕ → List ℤ → Bool
fitting room width xs = nat_lt 0 room && length xs == width && all_small xs

-- the value of a variable in a state, where there is such a state
abbrev pub value_there : Option (List ℤ) → ℕ → Option ℤ
value_there None variable = None
value_there (Some xs) variable = slice_get xs variable

-- the value of a variable in the state at a place of the list, or none
abbrev pub look_at : List (List ℤ) → ℕ → ℕ → Option ℤ
look_at states place variable = value_there (slice_get states place) variable
