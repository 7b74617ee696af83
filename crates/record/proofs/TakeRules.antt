-- What follows from the rules of a recorder. Assumes nothing.
use Rattle.std.proofs.Common.{◌≡◌, ℕ, zero, suc, ◌<◌, ◌≤◌, true, ◌&&◌, eqb, ltb, List, [], ◌∷◌, length, get_or, ℤ, pos, nat_abs, refl, ⊎_elim, arith}
use Rattle.std.proofs.lemmas.Bool.{and_parts, cases_lt}
use Rattle.record.specs.Rules.{Allowed, allowed_width, small, all_small, fitting}

-- a width that passes the test is from 1 to 16
pub allowed_of : (w : ℕ) → allowed_width w ≡ true → Allowed w
allowed_of w e = (grind arith, grind arith)

-- a width from 1 to 16 passes the test
pub of_allowed : (w : ℕ) → Allowed w → allowed_width w ≡ true
of_allowed w h = grind arith

-- a state is taken if there is room, it has the width, and its values are small
pub fits_of : (room width : ℕ) (xs : List ℤ) → 0 < room → length xs ≡ width → all_small xs ≡ true → fitting room width xs ≡ true
fits_of room width xs p q s =
    let a : ltb 0 room ≡ true = grind arith in
    let b : eqb (length xs) width ≡ true = grind arith in
    rw (a, b, s)

-- a state that is taken had room, had the width, and is of small values
pub of_fits : (room width : ℕ) (xs : List ℤ) → fitting room width xs ≡ true → (0 < room) × (length xs ≡ width) × (all_small xs ≡ true)
of_fits room width xs e = let p = and_parts (ltb 0 room && eqb (length xs) width) (all_small xs) e in let q = and_parts (ltb 0 room) (eqb (length xs) width) p.0 in (grind arith, grind arith, p.1)

-- one small value more
pub small_more : (x : ℤ) (xs : List ℤ) → nat_abs x ≤ 1000000 → all_small xs ≡ true → all_small (x ∷ xs) ≡ true
small_more x xs h e = let a : small x ≡ true = grind arith in rw (a, e)

-- values that are small one by one
pub small_each : (xs : List ℤ) → ((k : ℕ) → k < length xs → nat_abs (get_or xs k (pos 0)) ≤ 1000000) → all_small xs ≡ true
small_each [] h = refl
small_each (x ∷ xs) h = small_more x xs (h 0 (omega arith)) (small_each xs (λ k p. h (suc k) (omega arith)))

-- small values, one by one
pub each_small : (xs : List ℤ) → all_small xs ≡ true → (k : ℕ) → k < length xs → nat_abs (get_or xs k (pos 0)) ≤ 1000000
each_small [] e k p = omega arith
each_small (x ∷ xs) e zero p = let h = and_parts (small x) (all_small xs) e in grind arith
each_small (x ∷ xs) e (suc k) p = each_small xs (and_parts (small x) (all_small xs) e).1 k (omega arith)

-- a denied state leaves each place of the lent memory as it was
pub denied_cells : (before after : ℕ → ℤ) (m n : ℕ) → n ≡ m → ((k : ℕ) → k < m → after k ≡ before k) → ((k : ℕ) → n ≤ k → after k ≡ before k) → (k : ℕ) → after k ≡ before k
denied_cells before after m n e f g k = ⊎_elim (λ h. f k h) (λ h. g k (omega arith)) (cases_lt k m)
