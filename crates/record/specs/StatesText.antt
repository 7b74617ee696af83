-- How a record is written: for each state a line with its number, and then a line for each value. Assumes nothing.
use Rattle.std.specs.Prelude.{ℕ, ◌+◌, ◌*◌, ◌/◌, List, [], ◌∷◌, ◌++◌, ℤ, codes, decimal}
use Rattle.std.specs.Fmt.{signed_decimal}
use Rattle.record.specs.Rules.{cut}

-- a line with a key, which has its `=`, and a number; the byte 10 ends it
abbrev pub number_line : List ℕ → ℕ → List ℕ
number_line key n = key ++ decimal n ++ 10 ∷ []

-- the line `state=K`
abbrev pub state_line : ℕ → List ℕ
state_line k = number_line (codes "state=") k

-- the line `vJ=X`
abbrev pub value_line : ℕ → ℤ → List ℕ
value_line j x = codes "v" ++ decimal j ++ codes "=" ++ signed_decimal x ++ 10 ∷ []

-- a line for each value, where the first is that of variable j
unfoldable pub value_lines : ℕ → List ℤ → List ℕ
value_lines j [] = []
value_lines j (x ∷ xs) = value_line j x ++ value_lines (j + 1) xs

-- the text of state k
abbrev pub state_text : ℕ → List ℤ → List ℕ
state_text k xs = state_line k ++ value_lines 0 xs

-- states one right behind the other, where the first is state k
unfoldable pub states_text_from : ℕ → List (List ℤ) → List ℕ
states_text_from k [] = []
states_text_from k (xs ∷ xss) = state_text k xs ++ states_text_from (k + 1) xss

-- the text of a record
abbrev pub states_text : List (List ℤ) → List ℕ
states_text states = states_text_from 0 states

-- how many bytes are kept for a state of a width: 12 for its number's line, and 13 for each value's
abbrev pub state_bytes : ℕ → ℕ
state_bytes width = 12 + 13 * width

-- how many states of a width so many bytes take
abbrev pub text_capacity : ℕ → ℕ → ℕ
text_capacity size width = cut (size / state_bytes width)
