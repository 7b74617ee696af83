-- Where a search by halves ends in a list that rises.
use Rattle.std.proofs.Common.{◌≡◌, ℕ, zero, suc, ◌<◌, ◌≤◌, ◌≢◌, Bool, true, false, List, [], ◌∷◌, length, get_or, Some, None, cond, ap, ◌∙◌, ⊎_elim, refl, arith, eqb, ltb}
use Rattle.std.proofs.lemmas.Bool.Decides.{nat_tests}
use Rattle.std.specs.List.{find, AllWithin}
use Rattle.std.specs.List.Sorted.{IsNonDecreasingBy, IsPartitionPoint}
use Rattle.std.proofs.lemmas.Bool.{cases_lt}
use Rattle.feed.specs.declared.list.Reading.{Reading}
use Rattle.feed.specs.Lists.{matches, rank, ranked}

-- what is found is the element at i, if it passes the test and none before it does
pub find_met : {X : Type 0} (p : X → Bool) (xs : List X) (i : ℕ) (d : X) → i < length xs → AllWithin (λ x. p x ≡ false) xs 0 i → p (get_or xs i d) ≡ true
    → find p xs ≡ Some (get_or xs i d)
find_met p [] i d h before here = absurd (omega arith)
find_met p (x ∷ xs) zero d h before here = ap (λ b. cond b (Some x) (find p xs)) here
find_met p (x ∷ xs) (suc i) d h before here =
    ap (λ b. cond b (Some x) (find p xs)) (before 0 d (omega arith) (omega arith))
    ∙ find_met p xs i d (omega arith) (λ k e l m. before (suc k) e (omega arith) (omega arith)) here

-- nothing is found where no element passes the test
pub find_missed : {X : Type 0} (p : X → Bool) (xs : List X) → AllWithin (λ x. p x ≡ false) xs 0 (length xs) → find p xs ≡ None
find_missed p [] none = refl
find_missed p (x ∷ xs) none =
    ap (λ b. cond b (Some x) (find p xs)) (none 0 x (omega arith) (omega arith)) ∙ find_missed p xs (λ k e l m. none (suc k) e (omega arith) (omega arith))

-- A test that asks for one rank, and the first place i where a list that rises has reached that rank.
module _
    {X : Type 0} (p : X → Bool) (n : X → ℕ) (w : ℕ) (tells : (x : X) → p x ≡ eqb (n x) w) (xs : List X) (i : ℕ)
    (point : IsPartitionPoint (λ x. ltb (n x) w ≡ true) (λ x. ltb (n x) w ≡ false) xs i) where
  -- none before it passes
  below_fails : AllWithin (λ x. p x ≡ false) xs 0 i
  below_fails k d l h = let low = point.0 k d l h in tells (get_or xs k d) ∙ grind (arith, nat_tests)

  -- so if it passes, it is what is found
  pub halves_met : (d : X) → i < length xs → n (get_or xs i d) ≡ w → find p xs ≡ Some (get_or xs i d)
  halves_met d h e = find_met p xs i d h below_fails (tells (get_or xs i d) ∙ grind (arith, nat_tests))

  -- and if not, nothing is
  pub halves_missed : IsNonDecreasingBy n xs → ((d : X) → i < length xs → n (get_or xs i d) ≢ w) → find p xs ≡ None
  halves_missed up other =
      find_missed p xs
      (λ k d l h. ⊎_elim (λ (q : k < i). below_fails k d l q)
      (λ (q : i ≤ k).
      let in_list : i < length xs = omega arith in
      let rises = up i k d q h in
      let reached = point.1 i d (omega arith) in_list in
      let past = other d in_list in
      tells (get_or xs k d) ∙ grind (arith, nat_tests))
      (cases_lt k i))

-- in the ranges a record is for a variable and a state exactly if it has their rank
pub matches_rank : (variable state : ℕ) (r : Reading) → variable < 16 → matches variable state r ≡ eqb (rank r) (ranked variable state)
matches_rank variable state r h = grind (arith, nat_tests)
