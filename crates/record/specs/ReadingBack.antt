-- How the states are read back from a text. Assumes nothing.
use Rattle.std.specs.Prelude.{◌≡◌, ℕ, zero, suc, ◌≤◌, true, List, [], ◌∷◌, length, ℤ, pos, Option, unwrap_or}
use Rattle.text.specs.Cut.{before, after}
use Rattle.text.specs.Decimals.{integer_of}
use Rattle.record.specs.Rules.{Allowed, all_small, most_states}
use Rattle.record.specs.StatesText.{states_text}

-- the text past n lines
unfoldable pub past : ℕ → List ℕ → List ℕ
past zero t = t
past (suc n) t = past n (after 10 t)

-- the number between the first `=` and the end of its line, or none
abbrev pub next_number : List ℕ → Option ℤ
next_number t = integer_of 1000000 (before 10 (after 61 t))

-- that number, or 0
abbrev pub number_or_zero : List ℕ → ℤ
number_or_zero t = unwrap_or (next_number t) (pos 0)

-- the numbers of the first w lines
unfoldable pub read_values : ℕ → List ℕ → List ℤ
read_values zero t = []
read_values (suc w) t = number_or_zero t ∷ read_values w (after 10 t)

-- the first n states of width w, each with a line ahead of its values
unfoldable pub read_states : ℕ → ℕ → List ℕ → List (List ℤ)
read_states w zero t = []
read_states w (suc n) t = read_values w (after 10 t) ∷ read_states w n (past w (after 10 t))

-- each state has the width, and values that may be recorded
abbrev pub Shaped : ℕ → List (List ℤ) → Type 0
Shaped w [] = Unit {0}
Shaped w (xs ∷ xss) = (length xs ≡ w) × (all_small xs ≡ true) × Shaped w xss

-- the states of every record are read back from its text
abbrev pub ReadsBack : Type 0
ReadsBack = (w : ℕ) (states : List (List ℤ)) → Allowed w → length states ≤ most_states → Shaped w states → read_states w (length states) (states_text states) ≡ states
