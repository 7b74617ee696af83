-- Lists without double entries: one more that is not there; such a list fits, one to one, only into one that is as long;
-- and two of them whose entries go there and back have the same entries.
use Rattle.std.proofs.Common.{◌≡◌, suc, ◌≤◌, true, false, List, [], ◌∷◌, ◌++◌, length, map, sym, refl, ap, ◌∙◌, subst, arith}
use Rattle.std.specs.Prelude.{IsPermutation}
use Rattle.std.proofs.lemmas.List.Sorted.{IsPermutation-refl, IsPermutation-sym, IsPermutation-trans, IsPermutation-cons, IsPermutation-middle}
use Rattle.std.proofs.lemmas.Bool.{both_ways, or_left, or_right}
use Rattle.meaning.specs.declared.duties.Duty.{Duty}
use Rattle.meaning.specs.Work.{same_duty, has_duty}
use Rattle.meaning.specs.WellFormed.{◌∈◌, here, there}
use Rattle.meaning.proofs.Tests.{duty_itself}
use Rattle.meaning.proofs.PartOf.{Distinct}

-- either the last one, or one before it
snoc_in : {A : Type 0} (l : List A) (y d : A) → d ∈ (l ++ (y ∷ [])) → (d ≡ y → ⊥) → d ∈ l
snoc_in [] y d (here e) h = absurd (h e)
snoc_in [] y d (there q) h = elim q [ ]
snoc_in (x ∷ l) y d (here e) h = here e
snoc_in (x ∷ l) y d (there q) h = there (snoc_in l y d q h)

pub distinct_snoc : {A : Type 0} (l : List A) (y : A) → Distinct l → (y ∈ l → ⊥) → Distinct (l ++ (y ∷ []))
distinct_snoc [] y h n = ((λ q. elim q [ ]), tt)
distinct_snoc (x ∷ l) y h n = ((λ q. h.0 (snoc_in l y x q (λ e. n (here (sym e))))), distinct_snoc l y h.1 (λ q. n (there q)))

-- a list without one of its entries
abbrev without : {A : Type 0} {x : A} {l : List A} → x ∈ l → List A
without (here {l = l} e) = l
without (there {x = y} q) = y ∷ without q

without_length : {A : Type 0} {x : A} {l : List A} (q : x ∈ l) → length l ≡ suc (length (without q))
without_length (here e) = refl
without_length (there q) = omega (arith, without_length q)

still_in : {A : Type 0} {x : A} {l : List A} (q : x ∈ l) (y : A) → y ∈ l → (y ≡ x → ⊥) → y ∈ without q
still_in (here e) y (here p) n = absurd (n (p ∙ sym e))
still_in (here e) y (there r) n = r
still_in (there q) y (here p) n = here p
still_in (there q) y (there r) n = there (still_in q y r n)

pub fits_in : {A B : Type 0} (f : A → B) (l : List A) (m : List B) → Distinct l → ((x y : A) → x ∈ l → y ∈ l → f x ≡ f y → x ≡ y) → ((x : A) → x ∈ l → f x ∈ m) → length l ≤ length m
fits_in f [] m d i h = omega arith
fits_in f (x ∷ l) m d i h =
    let q : f x ∈ m = h x (here refl) in
    let r : length l ≤ length (without q) = fits_in f l (without q) d.1 (λ a b p t e. i a b (there p) (there t) e)
    (λ y p. still_in q (f y) (h y (there p)) (λ e. d.0 (subst (λ z. z ∈ l) (i y x (there p) (here refl) e) p))) in
    omega (arith, without_length q, r)

-- what is left of a list does not have the entry that was taken out, if no entry comes twice
none_left : {A : Type 0} {x : A} {l : List A} (q : x ∈ l) → Distinct l → x ∈ without q → ⊥
none_left (here {l = l} e) d r = d.0 (subst (λ z. z ∈ l) e r)
none_left (there {l = l} q) d (here e) = d.0 (subst (λ z. z ∈ l) e q)
none_left (there q) d (there r) = none_left q d.1 r

was_in : {A : Type 0} {x : A} {l : List A} (q : x ∈ l) (y : A) → y ∈ without q → y ∈ l
was_in (here e) y r = there r
was_in (there q) y (here e) = here e
was_in (there q) y (there r) = there (was_in q y r)

without_distinct : {A : Type 0} {x : A} {l : List A} (q : x ∈ l) → Distinct l → Distinct (without q)
without_distinct (here e) d = d.1
without_distinct (there {x = y} q) d = ((λ r. d.0 (was_in q y r)), without_distinct q d.1)

to_front : {A : Type 0} {x : A} {l : List A} (q : x ∈ l) → IsPermutation (x ∷ without q) l
to_front {x = x} (here {x = y} {l = l} e) = subst (λ z. IsPermutation (x ∷ l) (z ∷ l)) e (IsPermutation-refl (x ∷ l))
to_front {x = x} (there {x = y} {l = l} q) =
    IsPermutation-trans _ _ _ (IsPermutation-sym _ _ (IsPermutation-middle (y ∷ []) x (without q))) (IsPermutation-cons y _ _ (to_front q))

-- two lists without double entries whose entries go there and back have the same entries
pub permuted : {A B : Type 0} (f : A → B) (g : B → A) (l : List A) (m : List B) → Distinct l → Distinct m
    → ((x : A) → x ∈ l → f x ∈ m) → ((y : B) → y ∈ m → g y ∈ l) → ((x : A) → x ∈ l → g (f x) ≡ x) → ((y : B) → y ∈ m → f (g y) ≡ y) → IsPermutation (map f l) m
permuted f g [] [] d e h k i j = IsPermutation-refl []
permuted f g [] (y ∷ m) d e h k i j = absurd (elim (k y (here refl)) [ ])
permuted {A} {B} f g (x ∷ l) m d e h k i j =
    IsPermutation-trans _ _ _ (IsPermutation-cons (f x) _ _ (permuted f g l (without q) d.1 (without_distinct q e) there_still back_still (λ a p. i a (there p)) (λ b p. j b (was_in q b p)))) (to_front q)
  where
    q : f x ∈ m
    q = h x (here refl)

    there_still : (a : A) → a ∈ l → f a ∈ without q
    there_still a p = still_in q (f a) (h a (there p)) (λ n. d.0 (subst (λ z. z ∈ l) (sym (i a (there p)) ∙ ap g n ∙ i x (here refl)) p))

    back_still : (b : B) → b ∈ without q → g b ∈ l
    back_still b p = by (k b (was_in q b p))
      where
        by : g b ∈ (x ∷ l) → g b ∈ l
        by (here n) = absurd (none_left q e (subst (λ z. z ∈ without q) (sym (j b (was_in q b p)) ∙ ap f n) p))
        by (there r) = r

pub in_has : {d : Duty} {l : List Duty} → d ∈ l → has_duty d l ≡ true
in_has {d} (here {x = x} {l = l} e) = or_left (same_duty d x) (has_duty d l) (subst (λ z. same_duty d z ≡ true) e (duty_itself d))
in_has {d} (there {x = x} {l = l} q) = or_right (same_duty d x) (has_duty d l) (in_has q)

pub not_has : {d : Duty} {l : List Duty} → has_duty d l ≡ false → d ∈ l → ⊥
not_has {d} {l} e q = both_ways (has_duty d l) e (in_has q)
