-- How long texts are, and that the capacity has the bytes for them. Assumes nothing.
use Rattle.std.proofs.Common.{◌≡◌, ℕ, ◌+◌, ◌*◌, ◌/◌, ◌<◌, ◌≤◌, true, List, [], ◌∷◌, length, ℤ, pos, negsuc, nat_abs, add-mul, div-mul-le_self, mul-le-mul_right, length-append, arith}
use lib.Signed.{mag}
use Rattle.std.proofs.lemmas.Bool.{and_parts}
use Rattle.std.proofs.lemmas.Fmt.{length-decimal-le, length_signed_le}
use Rattle.std.specs.Fmt.{signed_decimal}
use Rattle.std.specs.Prelude.{decimal}
use Rattle.record.specs.Rules.{small, all_small}
use Rattle.record.specs.StatesText.{state_line, value_line, value_lines, state_text, state_bytes, text_capacity}

-- what a number counts without its sign
mag_le : (z : ℤ) → mag z ≤ nat_abs z
mag_le (pos n) = omega arith
mag_le (negsuc n) = omega arith

-- a value that may be recorded
pub small_abs : (x : ℤ) → small x ≡ true → nat_abs x ≤ 1000000
small_abs x e = grind arith

-- a value's line has at most 13 bytes
value_short : (j : ℕ) (x : ℤ) → j < 100 → small x ≡ true → length (value_line j x) ≤ 13
value_short j x h e =
    let m = mag_le x in
    let n = small_abs x e in
    let a : length (decimal j) ≤ 2 = length-decimal-le 2 j (omega arith) h (omega arith) in
    let b : length (signed_decimal x) ≤ 8 = length_signed_le 7 x (omega arith) (omega arith) in
    simp length-append (omega arith)

-- the lines of values
values_short : (j : ℕ) (xs : List ℤ) → j + length xs ≤ 100 → all_small xs ≡ true → length (value_lines j xs) ≤ 13 * length xs
unfolding value_lines
values_short j [] h e = omega arith
values_short j (x ∷ xs) h e =
    let p = and_parts (small x) (all_small xs) e in
    let a = value_short j x (omega arith) p.0 in
    let b = values_short (j + 1) xs (omega arith) p.1 in
    let l = length-append (value_line j x) (value_lines (j + 1) xs) in
    omega arith

-- the line of a state's number has at most 12 bytes
number_short : (k : ℕ) → k < 65535 → length (state_line k) ≤ 12
number_short k h =
    let a : length (decimal k) ≤ 5 = length-decimal-le 5 k (omega arith) (omega arith) (omega arith) in
    simp length-append (omega arith)

-- a state's text has at most the bytes that are kept for it
pub text_short : (k w : ℕ) (xs : List ℤ) → k < 65535 → w ≤ 16 → length xs ≡ w → all_small xs ≡ true → length (state_text k xs) ≤ state_bytes w
text_short k w xs h v e s =
    let a = number_short k h in
    let b = values_short 0 xs (omega arith) s in
    let l = length-append (state_line k) (value_lines 0 xs) in
    omega arith

-- the states of the capacity have their bytes
pub whole_fits : (n room w size : ℕ) → n + room ≡ text_capacity size w → (n + room) * state_bytes w ≤ size
whole_fits n room w size e =
    let a : n + room ≤ size / state_bytes w = omega arith in
    let b : (n + room) * state_bytes w ≤ size / state_bytes w * state_bytes w = mul-le-mul_right (state_bytes w) a in
    let d = div-mul-le_self size (state_bytes w) in
    omega (arith, b, d)

-- so the text of those that are written lies in the memory
pub text_fits : (n room w size written_length : ℕ) → n + room ≡ text_capacity size w → written_length ≤ n * state_bytes w → written_length ≤ size
text_fits n room w size written_length e h =
    let a = whole_fits n room w size e in
    let d = add-mul n room (state_bytes w) in
    omega (arith, a, d)

-- one state more
pub next_state : (n w : ℕ) → (n + 1) * state_bytes w ≡ n * state_bytes w + state_bytes w
next_state n w = let d = add-mul n 1 (state_bytes w) in omega (arith, d)

-- and so does the text of the next one
pub next_fits : (n room w size written_length : ℕ) → 0 < room → n + room ≡ text_capacity size w → written_length ≤ n * state_bytes w → written_length + state_bytes w ≤ size
next_fits n room w size written_length p e h =
    let a : n + 1 ≤ n + room = omega arith in
    let b : (n + 1) * state_bytes w ≤ (n + room) * state_bytes w = mul-le-mul_right (state_bytes w) a in
    omega (arith, b, next_state n w, whole_fits n room w size e, h)
