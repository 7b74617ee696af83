-- Comparisons that are total orders, in the words of this crate.
use Rattle.std.proofs.Common.{◌≡◌, ℕ, ◌⊎◌, List, [], ◌∷◌, sym, ap, ◌∙◌, inl, inr, refl}
use Rattle.std.proofs.lemmas.Bool.{true≢false}
use Rattle.std.proofs.lemmas.Cmp.{alike_right, tied_back, tied_itself, on_total, ranked, nat_cmp_total, nat_list_cmp_total}
use Rattle.std.specs.Cmp.{IsTotalOrder}
use Rattle.std.specs.Cmp.Lexicographic.{slice_cmp}
use Rattle.std.specs.declared.cmp.Ordering.{Ordering}
use Rattle.std.specs.declared.cmp.Ordering.TheVariants.{Less, Equal, Greater}
use Rattle.std.specs.Ordering.{ordering_reverse, ordering_then, is_eq, is_lt, MatchOrdering, nat_cmp, on}
use Rattle.search.specs.Order.{below_by, same_by, TotalOrder}

-- an answer is one of the three, and the third is the first with the items exchanged
three : (r s : Ordering) → r ≡ ordering_reverse s → (r ≡ Less) ⊎ ((r ≡ Equal) ⊎ (s ≡ Less))
three Less s e = inl refl
three Equal s e = inr (inl refl)
three Greater Less e = inr (inr refl)
three Greater Equal e = absurd (true≢false (sym (ap is_eq e)))
three Greater Greater e = absurd (true≢false (sym (ap is_lt e)))

-- a comparison that is a total order makes up one
pub total_of : {X : Type 0} (c : X → X → Ordering) → IsTotalOrder c → TotalOrder (below_by c) (same_by c)
total_of c t = record {
  one = λ x y. three (c x y) (c y x) (t.antisymm x y);
  apart = λ x y p q. true≢false (sym (ap is_eq (sym p ∙ q)));
  against = λ x y p q. true≢false (sym (ap is_lt (sym (t.antisymm x y ∙ ap ordering_reverse q) ∙ p)));
  chain = t.trans;
  itself = tied_itself t;
  turned = tied_back t;
  carried = λ x y z p q. t.congr x y z p ∙ q;
  lower = λ x y z p q. t.congr x y z p ∙ q;
  higher = λ x y z p q. sym (alike_right t y z x q) ∙ p;
}

-- an answer r of a comparison says where the first item lies
pub lies_of : {X : Type 0} (c : X → X → Ordering) → IsTotalOrder c → (x y : X) (r : Ordering) → r ≡ c x y → MatchOrdering r (below_by c x y) (same_by c x y) (below_by c y x)
lies_of c t x y Less e = sym e
lies_of c t x y Equal e = sym e
lies_of c t x y Greater e = t.antisymm y x ∙ ap ordering_reverse (sym e)

-- items that are ordered by a part of them
pub total_on : {X Y : Type 0} (c : Y → Y → Ordering) (f : X → Y) → IsTotalOrder c → TotalOrder (below_by (on f c)) (same_by (on f c))
total_on c f t = total_of (on f c) (on_total f t)

-- numbers that compare as the same are equal
pub number_same : (m n : ℕ) → same_by nat_cmp m n → m ≡ n
number_same m n e = ranked m n Equal (sym e)

-- two answers of which the second decides only where the first does not
then_same : (r s : Ordering) → ordering_then r s ≡ Equal → (r ≡ Equal) × (s ≡ Equal)
then_same Less s e = absurd (true≢false (sym (ap is_eq e)))
then_same Equal s e = (refl, e)
then_same Greater s e = absurd (true≢false (sym (ap is_eq e)))

-- byte strings that compare as the same are equal
pub bytes_same : (a b : List ℕ) → same_by (slice_cmp nat_cmp) a b → a ≡ b
bytes_same [] [] e = refl
bytes_same [] (y ∷ ys) e = absurd (true≢false (sym (ap is_eq e)))
bytes_same (x ∷ xs) [] e = absurd (true≢false (sym (ap is_eq e)))
bytes_same (x ∷ xs) (y ∷ ys) e =
    let s = then_same (nat_cmp x y) (slice_cmp nat_cmp xs ys) e in
    (λ i. number_same x y s.0 i ∷ bytes_same xs ys s.1 i)

-- where a byte string lies, seen from another
pub sides_of : (a b : List ℕ) (r : Ordering) → r ≡ slice_cmp nat_cmp a b → MatchOrdering r (below_by (slice_cmp nat_cmp) a b) (a ≡ b) (below_by (slice_cmp nat_cmp) b a)
sides_of a b Less e = sym e
sides_of a b Equal e = bytes_same a b (sym e)
sides_of a b Greater e = lies_of (slice_cmp nat_cmp) nat_list_cmp_total a b Greater e

-- a byte string compares as the same with itself
pub bytes_refl : (a : List ℕ) → same_by (slice_cmp nat_cmp) a a
bytes_refl = tied_itself nat_list_cmp_total

-- the order of numbers
pub total_number : TotalOrder (below_by nat_cmp) (same_by nat_cmp)
total_number = total_of nat_cmp nat_cmp_total

-- the order of byte strings
pub total_bytes : TotalOrder (below_by (slice_cmp nat_cmp)) (same_by (slice_cmp nat_cmp))
total_bytes = total_of (slice_cmp nat_cmp) nat_list_cmp_total
