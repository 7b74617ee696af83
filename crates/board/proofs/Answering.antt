-- What the answers of giving a number, putting an end, adding a duty and carrying one come to.
use Rattle.std.proofs.Common.{◌≡◌, ℕ, ◌≤◌, Bool, true, false, cond, ltb, List, length, get_or, ℤ, pos, negsuc, Some, None, Option, Ok, Err, Result, sym, refl, ap, ◌∙◌}
use Rattle.std.proofs.lemmas.Bool.{cond-true, cond-false, le-ltb, eq-eqb}
use Rattle.value.specs.declared.end.End.{End}
use Rattle.value.specs.declared.end.End.TheVariants.{Unknown, On, Last}
use Rattle.value.specs.Values.{equal_numbers}
use Rattle.meaning.specs.declared.duties.Duty.{Duty}
use Rattle.meaning.specs.declared.duties.Stop.{Stop}
use Rattle.meaning.specs.declared.duties.Stop.TheVariants.{Crowded, Contradiction}
use Rattle.meaning.specs.Intervals.{Setting}
use Rattle.meaning.specs.Work.{Work, has_duty, goes, stops, unchanged}
use Rattle.meaning.specs.Effects.{most_duties, if_room, with_later, carry, give, give_by, put_by}
use Rattle.board.specs.Outcomes.{outcome_of, adding_once, grown}
use Rattle.board.specs.Store.{Store, work}

-- a duty that is not in a full list is one too many
pub crowded : (d : Duty) (l : List Duty) → has_duty d l ≡ false → 512 ≤ length l → Err Crowded ≡ adding_once d l
crowded d l e h = sym (cond-false (has_duty d l) (Ok false) (cond (ltb (length l) 512) (Ok true) (Err Crowded)) e ∙ cond-false (ltb (length l) 512) (Ok true) (Err Crowded) (le-ltb (length l) 512 h))

-- the work whose list for the next state is l
abbrev with_list : Work → List Duty → Work
with_list w l = record { known = w.known; ends = w.ends; spans = w.spans; duties = w.duties; later = l; next = w.next }

-- a duty that is added once to the list for the next state is carried
pub told_carry : (d : Duty) (w : Work) (l : List Duty) (r : Result Bool Stop) → r ≡ adding_once d w.later → l ≡ grown r d w.later → outcome_of r (with_list w l) ≡ carry d w
told_carry d w l r e g = by (has_duty d w.later) (ltb (length w.later) most_duties) e
  where
    all : (a : Result Bool Stop) → r ≡ a → outcome_of r (with_list w l) ≡ outcome_of a (with_list w (grown a d w.later))
    all a p = ap (λ (z : Result Bool Stop). outcome_of z (with_list w l)) p ∙ ap (λ (k : List Duty). outcome_of a (with_list w k)) (g ∙ ap (λ (z : Result Bool Stop). grown z d w.later) p)

    by : (b c : Bool) → r ≡ cond b (Ok false) (cond c (Ok true) (Err Crowded)) → outcome_of r (with_list w l) ≡ cond b (unchanged w) (if_room c (with_later d w))
    by true c p = all (Ok false) p
    by false true p = all (Ok true) p
    by false false p = all (Err Crowded) p

-- a number equals itself
pub equal_itself : (u : ℤ) → equal_numbers u u ≡ true
equal_itself (pos a) = eq-eqb a a refl
equal_itself (negsuc a) = eq-eqb a a refl

-- a number that is the same as the one that is known changes nothing
pub gives_held : (S : Setting) (m : Store) (p x i : ℕ) (u v : ℤ) → i ≡ x → get_or m.values i None ≡ Some u → equal_numbers u v ≡ true → goes (work m) false ≡ give S p x v (work m)
gives_held S m p x i u v q o e =
    sym (ap (λ (z : Option ℤ). give_by S p z i v (work m)) o ∙ cond-true (equal_numbers u v) (unchanged (work m)) (stops (Contradiction p)) e) ∙ ap (λ (j : ℕ). give S p j v (work m)) q

-- to put an end that is not on changes nothing where the end is known to be the last
pub put_last : (p : ℕ) (known e : End) (s : ℕ) (w : Work) → known ≡ Last → (e ≡ On → ⊥) → goes w false ≡ put_by p known e s w
put_last p known e s w q n = sym (ap (λ (z : End). put_by p z e s w) q ∙ by e n)
  where
    by : (e : End) → (e ≡ On → ⊥) → put_by p Last e s w ≡ goes w false
    by Unknown n = refl
    by On n = absurd (n refl)
    by Last n = refl
