-- What the search for a duty finds, numbers that are in range, and a new number.
use Rattle.std.proofs.Common.{◌≡◌, ℕ, ◌<◌, Bool, true, false, cond, eqb, ◌||◌, List, [], ◌∷◌, map, length, get_or, set, ℤ, is_some, Some, None, Option, sym, refl, ap, ◌∙◌, subst}
use mathlib.Core.Path.{fun_ext}
use Rattle.std.proofs.lemmas.Bool.{cond-true, cond_both, eqb-true, eq-eqb, false≢true, true≢false}
use Rattle.std.proofs.lemmas.Grind.{get_or-set_at}
use Rattle.std.proofs.lemmas.List.{get_or-set_other, get_or_read_under}
use Rattle.std.specs.declared.cmp.Ordering.{Ordering}
use Rattle.std.specs.declared.cmp.Ordering.TheVariants.{Less, Equal, Greater}
use Rattle.std.specs.Ordering.{is_eq}
use Rattle.search.specs.Order.{FirstPlace, same_by}
use Rattle.search.proofs.Places.{place_by, later, first_place_by}
use Rattle.sheet.specs.declared.elements.Variable.{Variable}
use Rattle.sheet.specs.Content.{variable_at, no_variable}
use Rattle.value.specs.Values.{in_range, within_range, valued}
use Rattle.meaning.specs.declared.duties.Duty.{Duty}
use Rattle.meaning.specs.Intervals.{Setting, value_fits}
use Rattle.meaning.specs.WellFormed.{FitSays}
use Rattle.meaning.specs.declared.duties.Stop.TheVariants.{Contradiction}
use Rattle.meaning.specs.Effects.{give_by, give, with_value}
use Rattle.meaning.specs.Work.{set_at, goes, changed, stops, same_duty, has_duty}
use Rattle.meaning.specs.contracts.duties.DutyOrd.TheImpl as DutyOrd
use Rattle.meaning.specs.contracts.duties.DutyOrd.TheImpl.Laws.{matches_eq-law}
use Rattle.board.specs.Store.{span_of, ends_of, Store, work}
use Rattle.board.proofs.DerivedEqual.{duty_alike}

some_later : (o : Option ℕ) → is_some (later o) ≡ is_some o
some_later None = refl
some_later (Some i) = refl

-- a duty has a place exactly where the list has it
place_has : (d : Duty) (l : List Duty) → is_some (place_by (same_duty d) l) ≡ has_duty d l
place_has d [] = refl
place_has d (x ∷ l) = by (same_duty d x) (place_has d l)
  where
    by : (b : Bool) → is_some (place_by (same_duty d) l) ≡ has_duty d l → is_some (cond b (Some 0) (later (place_by (same_duty d) l))) ≡ (b || has_duty d l)
    by true ih = refl
    by false ih = some_later (place_by (same_duty d) l) ∙ ih

-- duties that the order does not tell apart pass the test, and the other way round
test_same : (d x : Duty) → same_by DutyOrd.cmp-value.it d x → same_duty d x ≡ true
test_same d x e = sym (duty_alike d x) ∙ matches_eq-law d x ∙ ap is_eq e

is_equal : (r : Ordering) → is_eq r ≡ true → r ≡ Equal
is_equal Less e = absurd (false≢true e)
is_equal Equal e = refl
is_equal Greater e = absurd (false≢true e)

same_test : (d x : Duty) → same_duty d x ≡ true → same_by DutyOrd.cmp-value.it d x
same_test d x e = is_equal (DutyOrd.cmp-value.it d x) (sym (matches_eq-law d x) ∙ duty_alike d x ∙ e)

pub found_has : (l : List Duty) (d : Duty) (r : Option ℕ) → FirstPlace (same_by DutyOrd.cmp-value.it) l d r → is_some r ≡ has_duty d l
found_has l d r p = ap is_some (first_place_by (same_by DutyOrd.cmp-value.it) (same_duty d) l d r (test_same d) (same_test d) p) ∙ place_has d l

-- values in their ranges are as they are
in_its_range : (v : Variable) (o : Option ℤ) (S : Setting) (x : ℕ) → variable_at S.sheet.variables x ≡ v → FitSays S x o → within_range v o ≡ o
in_its_range v None S x e h = refl
in_its_range v (Some z) S x e h = cond-true (in_range v z) (Some z) None (subst (λ (y : Variable). in_range y z ≡ true) e h)

pub known_values : (S : Setting) (values : List (Option ℤ)) → ((x : ℕ) → FitSays S x (get_or values x None)) → valued S.sheet.variables values ≡ (λ x. get_or values x None)
known_values S values h = fun_ext (λ x. in_its_range (variable_at S.sheet.variables x) (get_or values x None) S x refl (h x))

-- a new number is written at its variable's place
written_at : (values : List (Option ℤ)) (i : ℕ) (o : Option ℤ) → i < length values → (t : ℕ) → get_or (set values i o) t None ≡ set_at (λ x. get_or values x None) i o t
written_at values i o h t =
    cond_both (eqb i t) o (get_or values t None) (λ z. get_or (set values i o) t None ≡ z) (λ p. get_or-set_at values i t o None (sym (eqb-true i t p)) h)
    (λ p. get_or-set_other values i t o None (λ q. true≢false (sym (eq-eqb i t (sym q)) ∙ p)))

pub gives_new : (S : Setting) (m : Store) (p x i n : ℕ) (u v : ℤ) (y : Variable) → u ≡ v → i ≡ x → i < length m.values → get_or m.values i None ≡ None
    → y ≡ get_or S.sheet.variables i y → i < n → n ≡ length S.sheet.variables → in_range y u ≡ true
    → goes (work (record { values = set m.values i (Some u); rows = m.rows; duties = m.duties; later = m.later; next = m.next })) true ≡ give S p x v (work m)
gives_new S m p x i n u v y e q h o k b l r =
    let z : y ≡ variable_at S.sheet.variables i = get_or_read_under S.sheet.variables i n y no_variable k b l in
    ap (λ (f : ℕ → Option ℤ). goes (record { known = f; ends = ends_of m.rows; spans = map span_of m.rows; duties = m.duties; later = m.later; next = m.next }) true)
    (fun_ext (written_at m.values i (Some u) h))
    ∙ sym (ap (λ (w : Option ℤ). give_by S p w i u (work m)) o ∙ cond-true (value_fits S i u) (changed (with_value i u (work m))) (stops (Contradiction p)) (ap (λ (w : Variable). in_range w u) (sym z) ∙ r))
    ∙ ap (λ (j : ℕ). give S p j u (work m)) q
    ∙ ap (λ (w : ℤ). give S p x w (work m)) e
