-- Membership in a list, places in it, and a function that is changed at one place.
use Rattle.std.proofs.Common.{◌≡◌, ℕ, zero, suc, ◌<◌, ◌≤◌, eqb, List, [], ◌∷◌, ◌++◌, length, Some, None, Option, sym, refl, ap, subst, arith, length-append}
use Rattle.std.specs.List.{slice_get}
use Rattle.std.proofs.lemmas.Bool.{eqb-true, eq-eqb, ne_eqb, cond_both, cond-true, cond-false}
use Rattle.meaning.specs.Work.{set_at}
use Rattle.meaning.specs.WellFormed.{◌∈◌, here, there}

-- what is in a list is in a longer one
pub ∈_left : {A : Type 0} {d : A} {l : List A} (x : A) → d ∈ l → d ∈ (l ++ (x ∷ []))
∈_left x (here e) = here e
∈_left x (there m) = there (∈_left x m)

-- the last one is in the list
pub ∈_end : {A : Type 0} (x : A) (l : List A) → x ∈ (l ++ (x ∷ []))
∈_end x [] = here refl
∈_end x (y ∷ l) = there (∈_end x l)

-- a fact of each of a list and of one more
pub all_snoc : {A : Type 0} (P : A → Type 0) (x : A) (l : List A) → ((d : A) → d ∈ l → P d) → P x → (d : A) → d ∈ (l ++ (x ∷ [])) → P d
all_snoc P x [] h p d (here e) = subst P (sym e) p
all_snoc P x [] h p d (there m) = elim m [ ]
all_snoc P x (y ∷ l) h p d (here e) = h d (here e)
all_snoc P x (y ∷ l) h p d (there m) = all_snoc P x l (λ d m. h d (there m)) p d m

-- a list with one more is one longer
pub longer : {A : Type 0} (l : List A) (d : A) → length (l ++ (d ∷ [])) ≡ suc (length l)
longer l d = omega (arith, length-append l (d ∷ []))

-- a fact of a changed function at each place
pub set_all : {A : Type 0} (P : ℕ → A → Type 0) (f : ℕ → A) (s : ℕ) (a : A) → P s a → ((t : ℕ) → P t (f t)) → (t : ℕ) → P t (set_at f s a t)
set_all P f s a p h t = cond_both (eqb s t) a (f t) (P t) (λ e. subst (λ u. P u a) (eqb-true s t e) p) (λ e. h t)

-- at the changed place it is new
pub set_same : {A : Type 0} (f : ℕ → A) (s : ℕ) (a : A) → set_at f s a s ≡ a
set_same f s a = cond-true (eqb s s) a (f s) (eq-eqb s s refl)

-- at any other place it is as it was
pub set_other : {A : Type 0} (f : ℕ → A) (s : ℕ) (a : A) (t : ℕ) → t < s → set_at f s a t ≡ f t
set_other f s a t h = cond-false (eqb s t) a (f t) (ne_eqb s t (λ e. omega arith))

abbrev IsNone : {A : Type 0} → Option A → Type 0
IsNone None = Unit {0}
IsNone (Some _) = ⊥

-- something is not nothing
pub none_some : {A : Type 0} (d : A) → None ≡ Some d → ⊥
none_some d e = subst IsNone e tt

pub some_injective : {A : Type 0} (a b : A) → Some a ≡ Some b → a ≡ b
some_injective a b e = cc

-- what stands at a place is in the list
pub nth_in : {A : Type 0} (l : List A) (i : ℕ) (d : A) → slice_get l i ≡ Some d → d ∈ l
nth_in [] i d e = absurd (none_some d e)
nth_in (x ∷ l) zero d e = here (sym (some_injective _ _ e))
nth_in (x ∷ l) (suc i) d e = there (nth_in l i d e)

-- and what is in the list stands at some place
pub in_nth : {A : Type 0} {d : A} {l : List A} → d ∈ l → (i : ℕ) × (slice_get l i ≡ Some d)
in_nth {A} {d} {l} (here e) = (0, ap {B = Option A} Some (sym e))
in_nth (there m) = let r = in_nth m in (suc r.0, r.1)

-- past the end there is nothing more
pub nth_none : {A : Type 0} (l : List A) (i j : ℕ) → i ≤ j → slice_get l i ≡ None → slice_get l j ≡ None
nth_none [] i j h e = refl
nth_none (x ∷ l) zero j h e = absurd (none_some x (sym e))
nth_none (x ∷ l) (suc i) zero h e = absurd (omega arith)
nth_none (x ∷ l) (suc i) (suc j) h e = nth_none l i j (omega arith) e

-- what stands at a place is before the end
pub nth_within : {A : Type 0} (l : List A) (i : ℕ) (d : A) → slice_get l i ≡ Some d → i < length l
nth_within [] i d e = absurd (none_some d e)
nth_within (x ∷ l) zero d e = omega arith
nth_within (x ∷ l) (suc i) d e = omega (arith, nth_within l i d e)
