-- What an outcome that changes nothing says, for each of the five things that a visit does.
use Rattle.std.proofs.Common.{◌≡◌, ℕ, Bool, true, false, cond, ◌&&◌, ltb, ◌≢◌, List, length, ℤ, pos, Some, None, Option, sym, refl, ap, ◌∙◌, subst}
use Rattle.std.proofs.lemmas.Bool.{true≢false, cond_both}
use Rattle.value.specs.declared.end.End.{End}
use Rattle.value.specs.declared.end.End.TheVariants.{Unknown, On, Last}
use Rattle.value.specs.Values.{truth, equal_numbers}
use Rattle.meaning.specs.declared.duties.Duty.{Duty}
use Rattle.meaning.specs.declared.duties.Opening.{Opening}
use Rattle.meaning.specs.declared.duties.Stop.{Stop}
use Rattle.meaning.specs.declared.duties.Stop.TheVariants.{Contradiction, Crowded}
use Rattle.meaning.specs.Intervals.{Setting, value_fits}
use Rattle.meaning.specs.Work.{Work, Outcome, stops, goes, unchanged, changed, also, and_then, has_duty, has_opened}
use Rattle.meaning.specs.Effects.{most_duties, most_spans, with_value, with_duty, with_later, with_span, if_room, give_by, give, put_by, put, add, carry, open_span}
use Rattle.meaning.specs.Rules.{once_known, when_on}
use Rattle.meaning.specs.WellFormed.{◌∈◌, EndIs}
use Rattle.meaning.proofs.Lists.{none_some, some_injective}
use Rattle.meaning.proofs.Tests.{same_true, has_in, Stands, has_opened_says, truth_yes, truth_no, zero_or_not, unknown_on, on_last}

abbrev work_of : Work → Outcome → Work
work_of w (stops s) = w
work_of w (goes u c) = u

abbrev flag_of : Outcome → Bool
flag_of (stops s) = true
flag_of (goes u c) = c

-- an outcome that changes nothing leaves the work, and says P
abbrev pub Rests : Work → Outcome → Type 0 → Type 0
Rests w o P = (u : Work) → o ≡ goes u false → (w ≡ u) × P

pub quiet : (w : Work) → Rests w (goes w false) (Unit {0})
quiet w u e = (ap (work_of w) e, tt)

pub loud : {P : Type 0} (w u : Work) → goes w true ≡ goes u false → P
loud w u e = absurd (true≢false (ap flag_of e))

pub loud_stop : {P : Type 0} (s : Stop) (u : Work) → stops s ≡ goes u false → P
loud_stop s u e = absurd (true≢false (ap flag_of e))

loud_room : {P : Type 0} (b : Bool) (w u : Work) → if_room b w ≡ goes u false → P
loud_room true w u e = loud w u e
loud_room false w u e = loud_stop Crowded u e

loud_also : {P : Type 0} (o : Outcome) (u : Work) → also true o ≡ goes u false → P
loud_also (stops s) u e = loud_stop s u e
loud_also (goes w c) u e = loud w u e

pub says : (w : Work) (o : Outcome) (P Q : Type 0) → (P → Q) → Rests w o P → Rests w o Q
says w o P Q f r u e = let a : (w ≡ u) × P = r u e in (a.0, f a.1)

also_false : (c : Bool) (o : Outcome) (u : Work) → also c o ≡ goes u false → (c ≡ false) × (o ≡ goes u false)
also_false true o u e = loud_also o u e
also_false false (stops s) u e = loud_stop s u e
also_false false (goes w c) u e = (refl, e)

-- two things that change nothing
pub then_rests : (w : Work) (o : Outcome) (f : Work → Outcome) (P : Type 0) (Q : Work → Type 0) → Rests w o P → ((v : Work) → Rests v (f v) (Q v)) → Rests w (and_then o f) (P × Q w)
then_rests w (stops s) f P Q r t u e = loud_stop s u e
then_rests w (goes v c) f P Q r t u e =
    let a : (c ≡ false) × (f v ≡ goes u false) = also_false c (f v) u e in
    let b : (w ≡ v) × P = r v (ap (λ z. goes v z) a.0) in
    let d : (v ≡ u) × Q v = t v u a.1 in
    (b.0 ∙ d.0, (b.1, subst Q (sym b.0) d.1))

pub once_rests : (w : Work) (q : Option ℤ) (f : ℤ → Work → Outcome) (P : ℤ → Type 0) → ((v : ℤ) → Rests w (f v w) (P v)) → Rests w (once_known q f w) ((v : ℤ) → q ≡ Some v → P v)
once_rests w None f P r u e = ((quiet w u e).0, λ v h. absurd (none_some v h))
once_rests w (Some v) f P r u e = let a : (w ≡ u) × P v = r v u e in (a.0, λ z h. subst P (some_injective v z h) a.1)

pub when_rests : (w : Work) (c : End) (f : Work → Outcome) (P : Type 0) → Rests w (f w) P → Rests w (when_on c f w) (c ≡ On → P)
when_rests w Unknown f P r u e = ((quiet w u e).0, λ h. absurd (unknown_on h))
when_rests w On f P r u e = let a : (w ≡ u) × P = r u e in (a.0, λ _. a.1)
when_rests w Last f P r u e = ((quiet w u e).0, λ h. absurd (on_last (sym h)))

pub truth_rests : (w : Work) (v : ℤ) (a b : Outcome) (P Q : Type 0) → Rests w a P → Rests w b Q → Rests w (cond (truth v) a b) ((v ≢ pos 0 → P) × (v ≡ pos 0 → Q))
truth_rests w v a b P Q r s = by (zero_or_not v)
  where
    by : Dec (v ≡ pos 0) → Rests w (cond (truth v) a b) ((v ≢ pos 0 → P) × (v ≡ pos 0 → Q))
    by (yes z) u e = let h : (w ≡ u) × Q = s u (sym (truth_no v a b z) ∙ e) in (h.0, ((λ n. absurd (n z)), (λ _. h.1)))
    by (no z) u e = let h : (w ≡ u) × P = r u (sym (truth_yes v a b z) ∙ e) in (h.0, ((λ _. h.1), (λ y. absurd (z y))))

-- a duty that is added again, or carried again, is in its list
once_in : (d : Duty) (l : List Duty) (w v : Work) (room : Bool) → Rests w (cond (has_duty d l) (unchanged w) (if_room room v)) (d ∈ l)
once_in d l w v room =
    cond_both (has_duty d l) (unchanged w) (if_room room v) (λ o. Rests w o (d ∈ l)) (λ h u e. ((quiet w u e).0, has_in d l h)) (λ h u e. loud_room room v u e)

pub add_rests : (d : Duty) (w : Work) → Rests w (add d w) (d ∈ w.duties)
add_rests d w = once_in d w.duties w (with_duty d w) (ltb (length w.duties) most_duties)

pub carry_rests : (d : Duty) (w : Work) → Rests w (carry d w) (d ∈ w.later)
carry_rests d w = once_in d w.later w (with_later d w) (ltb (length w.later) most_duties)

put_by_rests : (p : ℕ) (c e : End) (s : ℕ) (w : Work) → Rests w (put_by p c e s w) (EndIs c e)
put_by_rests p Unknown Unknown s w u e = quiet w u e
put_by_rests p Unknown On s w u e = loud _ u e
put_by_rests p Unknown Last s w u e = loud _ u e
put_by_rests p On Unknown s w u e = quiet w u e
put_by_rests p On On s w u e = ((quiet w u e).0, refl)
put_by_rests p On Last s w u e = loud_stop _ u e
put_by_rests p Last Unknown s w u e = quiet w u e
put_by_rests p Last On s w u e = loud_stop _ u e
put_by_rests p Last Last s w u e = ((quiet w u e).0, refl)

pub put_rests : (p : ℕ) (e : End) (s : ℕ) (w : Work) → Rests w (put p e s w) (EndIs (w.ends s) e)
put_rests p e s w = put_by_rests p (w.ends s) e s w

give_by_rests : (S : Setting) (p : ℕ) (q : Option ℤ) (x : ℕ) (v : ℤ) (w : Work) → Rests w (give_by S p q x v w) (q ≡ Some v)
give_by_rests S p None x v w =
    cond_both (value_fits S x v) (changed (with_value x v w)) (stops (Contradiction p)) (λ o. Rests w o (None ≡ Some v)) (λ h u e. loud _ u e) (λ h u e. loud_stop _ u e)
give_by_rests S p (Some a) x v w =
    cond_both (equal_numbers a v) (unchanged w) (stops (Contradiction p)) (λ o. Rests w o (Some a ≡ Some v))
    (λ h u e. ((quiet w u e).0, ap {B = Option ℤ} Some (same_true a v h))) (λ h u e. loud_stop _ u e)

pub give_rests : (S : Setting) (p x : ℕ) (v : ℤ) (w : Work) → Rests w (give S p x v w) (w.known x ≡ Some v)
give_rests S p x v w = give_by_rests S p (w.known x) x v w

pub open_rests : (g : Opening) (w : Work) → Rests w (open_span g w) (Stands g w.spans)
open_rests g w =
    let room : Bool = ltb (length w.spans) most_spans && ltb (length w.duties) most_duties in
    cond_both (has_opened g w.spans) (unchanged w) (if_room room (with_span g w)) (λ o. Rests w o (Stands g w.spans))
    (λ h u e. ((quiet w u e).0, has_opened_says g w.spans h)) (λ h u e. loud_room room (with_span g w) u e)
