-- What the tests on numbers, duties, ends and openings say.
use Rattle.std.proofs.Common.{◌≡◌, zero, suc, true, false, cond, ◌&&◌, eqb, ◌≢◌, List, [], ◌∷◌, ℤ, pos, negsuc, Some, None, Option, sym, refl, ap, subst, ⊎_elim, arith}
use Rattle.std.proofs.lemmas.Bool.{false≢true, both_ways, eqb-true, eq-eqb, ne_eqb, and_parts, and_from, or_cases, or_left, or_right}
use Rattle.value.specs.declared.end.End.{End}
use Rattle.value.specs.declared.end.End.TheVariants.{Unknown, On, Last}
use Rattle.value.specs.Values.{truth, equal_numbers}
use Rattle.meaning.specs.declared.duties.Duty.{Duty}
use Rattle.meaning.specs.declared.duties.Opening.{Opening}
use Rattle.meaning.specs.declared.duties.Span.{Span}
use Rattle.meaning.specs.Work.{same_number, same_duty, has_duty, same_end, same_opening, opened_by, has_opened}
use Rattle.meaning.specs.WellFormed.{◌∈◌, here, there}

-- numbers that pass are equal
pub same_true : (u v : ℤ) → equal_numbers u v ≡ true → u ≡ v
same_true (pos a) (pos b) e = ap pos (eqb-true a b e)
same_true (pos a) (negsuc b) e = absurd (false≢true e)
same_true (negsuc a) (pos b) e = absurd (false≢true e)
same_true (negsuc a) (negsuc b) e = ap negsuc (eqb-true a b e)

-- a number passes with itself
pub same-itself : (u : ℤ) → equal_numbers u u ≡ true
same-itself (pos a) = eq-eqb a a refl
same-itself (negsuc a) = eq-eqb a a refl

-- numbers that do not pass are not equal
pub same_false : (u v : ℤ) → equal_numbers u v ≡ false → u ≡ v → ⊥
same_false u v e p = both_ways (equal_numbers u v) e (subst (λ z. equal_numbers u z ≡ true) p (same-itself u))

same_number_says : (a b : Option ℤ) → same_number a b ≡ true → a ≡ b
same_number_says None None e = refl
same_number_says None (Some v) e = absurd (false≢true e)
same_number_says (Some u) None e = absurd (false≢true e)
same_number_says (Some u) (Some v) e = ap {B = Option ℤ} Some (same_true u v e)

-- duties that pass are one
pub same_duty_says : (a b : Duty) → same_duty a b ≡ true → a ≡ b
same_duty_says a b e =
    let p = and_parts (eqb a.statement b.statement) (same_number a.number b.number && eqb a.span b.span) e in
    let q = and_parts (same_number a.number b.number) (eqb a.span b.span) p.1 in
    let x : a.statement ≡ b.statement = eqb-true a.statement b.statement p.0 in
    let y : a.number ≡ b.number = same_number_says a.number b.number q.0 in
    let z : a.span ≡ b.span = eqb-true a.span b.span q.1 in
    λ i. record { statement = x i; number = y i; span = z i }

number_itself : (a : Option ℤ) → same_number a a ≡ true
number_itself None = refl
number_itself (Some v) = same-itself v

-- and a duty passes with itself
pub duty_itself : (a : Duty) → same_duty a a ≡ true
duty_itself a =
    and_from (eqb a.statement a.statement) (same_number a.number a.number && eqb a.span a.span) (eq-eqb a.statement a.statement refl)
    (and_from (same_number a.number a.number) (eqb a.span a.span) (number_itself a.number) (eq-eqb a.span a.span refl))

-- a list that has a duty has it
pub has_in : (d : Duty) (l : List Duty) → has_duty d l ≡ true → d ∈ l
has_in d [] e = absurd (false≢true e)
has_in d (x ∷ l) e = ⊎_elim (λ (p : same_duty d x ≡ true). here (same_duty_says d x p)) (λ (p : has_duty d l ≡ true). there (has_in d l p)) (or_cases (same_duty d x) (has_duty d l) e)

same_end_says : (a b : End) → same_end a b ≡ true → a ≡ b
same_end_says Unknown Unknown e = refl
same_end_says Unknown On e = absurd (false≢true e)
same_end_says Unknown Last e = absurd (false≢true e)
same_end_says On Unknown e = absurd (false≢true e)
same_end_says On On e = refl
same_end_says On Last e = absurd (false≢true e)
same_end_says Last Unknown e = absurd (false≢true e)
same_end_says Last On e = absurd (false≢true e)
same_end_says Last Last e = refl

same_opening_says : (a b : Opening) → same_opening a b ≡ true → a ≡ b
same_opening_says a b e =
    let p = and_parts (eqb a.by b.by) (eqb a.body b.body && (same_end a.starts b.starts && same_duty a.follower b.follower)) e in
    let q = and_parts (eqb a.body b.body) (same_end a.starts b.starts && same_duty a.follower b.follower) p.1 in
    let r = and_parts (same_end a.starts b.starts) (same_duty a.follower b.follower) q.1 in
    let w : a.by ≡ b.by = eqb-true a.by b.by p.0 in
    let x : a.body ≡ b.body = eqb-true a.body b.body q.0 in
    let y : a.starts ≡ b.starts = same_end_says a.starts b.starts r.0 in
    let z : a.follower ≡ b.follower = same_duty_says a.follower b.follower r.1 in
    λ i. record { by = w i; body = x i; starts = y i; follower = z i }

opened_by_says : (g : Opening) (o : Option Opening) → opened_by g o ≡ true → o ≡ Some g
opened_by_says g None e = absurd (false≢true e)
opened_by_says g (Some h) e = ap {B = Option Opening} Some (sym (same_opening_says g h e))

-- a span of the list that was opened so in this state
pub record Stands (g : Opening) (l : List Span) : Type 0 where
  pub span : Span
  pub inside : span ∈ l
  pub opened : span.opening ≡ Some g
  pub newly : span.fresh ≡ true

stands_up : {g : Opening} {l : List Span} (t : Span) → Stands g l → Stands g (t ∷ l)
stands_up t h = record { span = h.span; inside = there h.inside; opened = h.opened; newly = h.newly }

-- a list with such a span has it
pub has_opened_says : (g : Opening) (l : List Span) → has_opened g l ≡ true → Stands g l
has_opened_says g [] e = absurd (false≢true e)
has_opened_says g (t ∷ l) e =
    ⊎_elim
    (λ (p : (t.fresh && opened_by g t.opening) ≡ true). let q = and_parts t.fresh (opened_by g t.opening) p in record { span = t; inside = here refl; opened = opened_by_says g t.opening q.1; newly = q.0 })
    (λ (p : has_opened g l ≡ true). stands_up t (has_opened_says g l p))
    (or_cases (t.fresh && opened_by g t.opening) (has_opened g l) e)

end_itself : (a : End) → same_end a a ≡ true
end_itself Unknown = refl
end_itself On = refl
end_itself Last = refl

opening_itself : (g : Opening) → same_opening g g ≡ true
opening_itself g =
    and_from (eqb g.by g.by) (eqb g.body g.body && (same_end g.starts g.starts && same_duty g.follower g.follower)) (eq-eqb g.by g.by refl)
    (and_from (eqb g.body g.body) (same_end g.starts g.starts && same_duty g.follower g.follower) (eq-eqb g.body g.body refl)
    (and_from (same_end g.starts g.starts) (same_duty g.follower g.follower) (end_itself g.starts) (duty_itself g.follower)))

stands_has_opened : (g : Opening) (l : List Span) (t : Span) → t ∈ l → t.opening ≡ Some g → t.fresh ≡ true → has_opened g l ≡ true
stands_has_opened g [] t q o f = elim q [ ]
stands_has_opened g (x ∷ l) t (here e) o f =
    or_left (x.fresh && opened_by g x.opening) (has_opened g l)
    (subst (λ z. (z.fresh && opened_by g z.opening) ≡ true) e (and_from t.fresh (opened_by g t.opening) f (subst (λ z. opened_by g z ≡ true) (sym o) (opening_itself g))))
stands_has_opened g (x ∷ l) t (there q) o f = or_right (x.fresh && opened_by g x.opening) (has_opened g l) (stands_has_opened g l t q o f)

-- and a list that has such a span passes
pub stands_has : {g : Opening} {l : List Span} → Stands g l → has_opened g l ≡ true
stands_has {g} {l} h = stands_has_opened g l h.span h.inside h.opened h.newly

-- a number that is not 0 is true
pub truth_yes : {A : Type 0} (v : ℤ) (a b : A) → v ≢ pos 0 → cond (truth v) a b ≡ a
truth_yes (pos zero) a b h = absurd (h refl)
truth_yes (pos (suc n)) a b h = refl
truth_yes (negsuc n) a b h = refl

-- and 0 is not
pub truth_no : {A : Type 0} (v : ℤ) (a b : A) → v ≡ pos 0 → cond (truth v) a b ≡ b
truth_no v a b h = subst (λ u. cond (truth u) a b ≡ b) (sym h) refl

-- a number is 0, or not
pub zero_or_not : (v : ℤ) → Dec (v ≡ pos 0)
zero_or_not (pos zero) = yes refl
zero_or_not (pos (suc n)) = no (λ e. same_false (pos (suc n)) (pos 0) (ne_eqb (suc n) 0 (λ p. omega arith)) e)
zero_or_not (negsuc n) = no (λ e. same_false (negsuc n) (pos 0) refl e)

abbrev IsOn : End → Type 0
IsOn Unknown = ⊥
IsOn On = Unit {0}
IsOn Last = ⊥

abbrev IsLast : End → Type 0
IsLast Unknown = ⊥
IsLast On = ⊥
IsLast Last = Unit {0}

-- the three ends are three
pub unknown_on : Unknown ≡ On → ⊥
unknown_on e = subst IsOn (sym e) tt

pub unknown_last : Unknown ≡ Last → ⊥
unknown_last e = subst IsLast (sym e) tt

pub on_last : On ≡ Last → ⊥
on_last e = subst IsLast (sym e) tt
