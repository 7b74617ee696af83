-- After which visits others are in vain.
use Rattle.std.proofs.Common.{◌≡◌, ℕ, ◌<◌, Bool, true, false, not, Some, None, Option, Ok, Err, Result, IfOk, sym, refl, ◌∙◌, subst}
use Rattle.std.specs.List.{slice_get}
use Rattle.std.proofs.lemmas.Bool.{true≢false}
use Rattle.meaning.specs.declared.duties.Duty.{Duty}
use Rattle.meaning.specs.declared.duties.Opening.{Opening}
use Rattle.meaning.specs.declared.duties.Span.{Span}
use Rattle.meaning.specs.declared.duties.Stop.{Stop}
use Rattle.meaning.specs.Intervals.{Setting}
use Rattle.meaning.specs.Work.{Work, goes}
use Rattle.meaning.specs.Rules.{visit, visit_span}
use Rattle.meaning.specs.WellFormed.{◌∈◌, Present, Nested, WellFormed, Extends}
use Rattle.meaning.specs.Waiting.{waits, span_waits}
use Rattle.meaning.proofs.Lists.{nth_in}
use Rattle.meaning.proofs.VisitedInVain.{Inside, visit-idle, span_idle}
use Rattle.board.specs.Outcomes.{outcome_of}
use Rattle.rules.specs.declared.visit.Visited.{Visited}
use Rattle.rules.specs.Visits.{visit_changed}
use Rattle.settling.proofs.VisitsKeepOrder.{visit_later, span_later}

-- what lives is older than the next span
present_below : (S : Setting) (w : Work) (s : ℕ) → WellFormed S w → Present w.spans s → s < w.next
present_below S w s t h = subst (λ z. z < w.next) h.named (t.few_serials h.span h.inside)

-- a span in order, and the one that it lies in, are older than the next
inside_of : (S : Setting) (w : Work) (s : ℕ) (q : Option Opening) → WellFormed S w → Present w.spans s → Nested w.spans s q → Inside w.next s q
inside_of S w s None t h n = tt
inside_of S w s (Some g) t h n = (present_below S w s t h, present_below S w g.follower.span t n.1)

not_says : (b : Bool) → not b ≡ true → b ≡ false
not_says false e = refl
not_says true e = absurd (true≢false (sym e))

-- a duty is visited in vain after a visit that waits for nothing
pub duty_vain : (S : Setting) (k i : ℕ) (d : Duty) (w u : Work) (r : Result Visited Stop) → WellFormed S w → slice_get w.duties i ≡ Some d → outcome_of (visit_changed r) u ≡ visit S k d w → IfOk r (λ a. a.done ≡ not (waits S d w))
    → IfOk r (λ a. a.done ≡ true → (v : Work) → Extends u v → visit S k d v ≡ goes v false)
duty_vain S k i d w u (Ok a) t e h n = λ m. visit-idle S k d w u a.changed (present_below S w d.span t (t.duty_present d (nth_in w.duties i d e))) (not_says (waits S d w) (sym n ∙ m)) (sym h) (visit_later S k d w u a.changed h)
duty_vain S k i d w u (Err s) t e h n = tt

-- and so is a span
pub span_vain : (S : Setting) (i : ℕ) (t : Span) (w u : Work) (r : Result Visited Stop) → WellFormed S w → slice_get w.spans i ≡ Some t → outcome_of (visit_changed r) u ≡ visit_span t w → IfOk r (λ a. a.done ≡ not (span_waits t u))
    → IfOk r (λ a. a.done ≡ true → (v : Work) → Extends u v → visit_span t v ≡ goes v false)
span_vain S i t w u (Ok a) y e h n = λ m.
    let s : t ∈ w.spans = nth_in w.spans i t e in
    span_idle S t w u a.changed (inside_of S w t.serial t.opening y (record { span = t; inside = s; named = refl }) (y.nested t s)) (not_says (span_waits t u) (sym n ∙ m)) (sym h) (span_later S t w u a.changed h)
span_vain S i t w u (Err s) y e h n = tt
