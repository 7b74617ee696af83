-- The visits to duties and to spans, as the visits to one list.
use Rattle.std.proofs.Common.{◌≡◌, ℕ, zero, suc, ◌+◌, ◌<◌, ◌≤◌, Bool, Result, Ok, Err, OnOk, List, [], ◌∷◌, length, drop, Some, None, Option, sym, refl, ap, ◌∙◌, arith}
use mathlib.Core.Path.{fun_ext}
use Rattle.std.specs.List.{slice_get}
use Rattle.meaning.specs.declared.duties.Duty.{Duty}
use Rattle.meaning.specs.declared.duties.Span.{Span}
use Rattle.meaning.specs.declared.duties.Stop.{Stop}
use Rattle.meaning.specs.Intervals.{Setting}
use Rattle.meaning.specs.Work.{Work, Outcome, stops, goes, also, and_then}
use Rattle.meaning.specs.Rules.{visit, visit_span}
use Rattle.meaning.specs.Passes.{pass_fuel, visit_or, visit_duties, visit_spans}
use Rattle.meaning.proofs.Lists.{none_some, nth_within}
use Rattle.board.specs.Outcomes.{outcome_of, afterwards}
use Rattle.settling.specs.Walks.{visit_one, visit_from}
use Rattle.settling.proofs.VisitsKeepOrder.{span_same}

-- an answer where something has changed before tells the same of an outcome
pub told_afterwards : (b : Bool) (r : Result Bool Stop) (u : Work) → outcome_of (afterwards b r) u ≡ also b (outcome_of r u)
told_afterwards b (Ok c) u = refl
told_afterwards b (Err s) u = refl

-- and the same facts hold on it
pub on_afterwards : (P : Type 0) (b : Bool) (r : Result Bool Stop) → OnOk r P → OnOk (afterwards b r) P
on_afterwards P b (Ok c) h = h
on_afterwards P b (Err s) h = tt

-- the fuel of a pass is one more than the most duties
pub fuel_is : pass_fuel ≡ 513
unfolding pass_fuel
fuel_is = refl

one_as : (S : Setting) (k : ℕ) (o : Option Duty) (rest : Work → Outcome) (w : Work) → visit_or S k o rest w ≡ visit_one (visit S k) o rest w
one_as S k None rest w = refl
one_as S k (Some d) rest w = refl

-- the visits to the duties
pub duties_as : (S : Setting) (k n i : ℕ) (w : Work) → visit_duties S k n i w ≡ visit_from (λ v. v.duties) (visit S k) n i w
duties_as S k zero i w = refl
duties_as S k (suc n) i w =
    one_as S k (slice_get w.duties i) (visit_duties S k n (suc i)) w ∙ ap (λ (f : Work → Outcome). visit_one (visit S k) (slice_get w.duties i) f w) (fun_ext (duties_as S k n (suc i)))

-- the list from a place on, where a span stands there
drop_more : (l : List Span) (i : ℕ) (t : Span) → slice_get l i ≡ Some t → drop i l ≡ (t ∷ drop (suc i) l)
drop_more [] i t e = absurd (none_some t e)
drop_more (x ∷ l) zero t e = let p : x ≡ t = cc in ap (λ (z : Span). z ∷ l) p
drop_more (x ∷ l) (suc i) t e = drop_more l i t e

-- and past the end
drop_past : (l : List Span) (i : ℕ) → slice_get l i ≡ None → drop i l ≡ []
drop_past [] zero e = refl
drop_past [] (suc i) e = refl
drop_past (x ∷ l) zero e = absurd (none_some x (sym e))
drop_past (x ∷ l) (suc i) e = drop_past l i e

-- two ways to go on agree after an outcome, if they agree at its work
then_alike : (o : Outcome) (f h : Work → Outcome) → ((u : Work) (c : Bool) → goes u c ≡ o → f u ≡ h u) → and_then o f ≡ and_then o h
then_alike (stops s) f h e = refl
then_alike (goes u c) f h e = ap (also c) (e u c refl)

-- the visits to the spans, which open none
pub spans_as : (n i : ℕ) (w : Work) → i ≤ length w.spans → length w.spans < n + i → visit_spans (drop i w.spans) w ≡ visit_from (λ v. v.spans) visit_span n i w
spans_as zero i w h l = absurd (omega arith)
spans_as (suc n) i w h l = by (slice_get w.spans i) refl (λ u. spans_as n (suc i) u)
  where
    by : (o : Option Span) → slice_get w.spans i ≡ o
        → ((u : Work) → suc i ≤ length u.spans → length u.spans < n + suc i → visit_spans (drop (suc i) u.spans) u ≡ visit_from (λ v. v.spans) visit_span n (suc i) u)
        → visit_spans (drop i w.spans) w ≡ visit_one visit_span o (visit_from (λ v. v.spans) visit_span n (suc i)) w
    by None e f = ap (λ (z : List Span). visit_spans z w) (drop_past w.spans i e)
    by (Some t) e f =
        ap (λ (z : List Span). visit_spans z w) (drop_more w.spans i t e)
        ∙ then_alike (visit_span t w) (visit_spans (drop (suc i) w.spans)) (visit_from (λ v. v.spans) visit_span n (suc i))
        (λ u c q.
        let s = span_same t w u c q in
        let a = nth_within w.spans i t e in
        let b : length u.spans ≡ length w.spans = ap (λ (z : List Span). length z) s in
        ap (λ (z : List Span). visit_spans (drop (suc i) z) u) (sym s) ∙ f u (omega (arith, a, b)) (omega (arith, b, l)))
