-- The spans are visited after the duties, and the skips on both stay right meanwhile.
use Rattle.std.proofs.Common.{ℕ, Bool, List, Result, OnOk, refl, sym, ap, ◌∙◌, subst, arith}
use Rattle.std.proofs.lemmas.Result.{on_ok_weaker, err_from_is_err_and}
use Rattle.meaning.specs.declared.duties.Stop.{Stop}
use Rattle.meaning.specs.Work.{Outcome, also, and_then}
use Rattle.meaning.specs.Passes.{visit_spans}
use Rattle.board.specs.Outcomes.{outcome_of}
use Rattle.settling.proofs.TwoLists.{told_afterwards, on_afterwards}
use Rattle.meaning.specs.Rules.{visit, visit_span}
use Rattle.board.specs.Work.{work_of}
use Rattle.settling.specs.Passing.{setting_of}
use Rattle.settling.specs.Skipped.{Skipped, SkippedSpans}
use Rattle.settling.proofs.VisitsKeepOrder.{back}
use Rattle.settling.proofs.ListVisits.{skipped_later}
use Rattle.settling.proofs.pass.Pass.visit_both.Goals as goal

pub visit_duties-requires-clause-skipped : goal.visit_duties-requires-clause-skipped
visit_duties-requires-clause-skipped g c =
    let p = c.args.self.now in
    subst (λ (z : List ℕ). Skipped (setting_of g.F.Feed.readings p) p.state (work_of c.args.board.now) z) (sym c.deref_mut.ensures.value) c.requires.skipped

pub visit_spans-requires-clause-skipped : goal.visit_spans-requires-clause-skipped
visit_spans-requires-clause-skipped g c =
    let w = work_of c.args.board.now in
    skipped_later (λ w. w.spans) visit_span (λ w u f i t e. f.spans i t e) w (work_of c.visit_duties.new.board) c.deref_mut-2.result.now c.in_ok-changed.ensures.leaves.later
    (subst (λ (z : List ℕ). SkippedSpans w z) (sym c.deref_mut-2.ensures.value) c.requires.skipped_spans)

pub returns-clause-skipped : goal.returns-clause-skipped
returns-clause-skipped g c =
    let p = c.args.self.now in
    let S = setting_of g.F.Feed.readings p in
    let v = c.args.skips.now.duties in
    let u = work_of c.visit_duties.new.board in
    let skips = c.visit_duties.new.skips in
    let m = subst (λ (z : List ℕ). Skipped S p.state u z) (sym (back v.len skips v.items (omega (arith, c.visit_duties.auto.skips, c.deref_mut.ensures.len)))) c.in_ok-changed.ensures.skipped in
    let h = on_ok_weaker c.visit_spans.result (λ l. skipped_later (λ w. w.duties) (visit S p.state) (λ w u f i d e. f.duties i d e) u (work_of c.visit_spans.new.board) _ l.later m) c.visit_spans.ensures.leaves in
    rw c.afterwards.ensures (on_afterwards _ c.in_ok-changed.changed c.visit_spans.result h)

pub returns-clause-skipped_spans : goal.returns-clause-skipped_spans
returns-clause-skipped_spans g c =
    let v = c.args.skips.now.spans in
    let skips = c.visit_spans.new.skips in
    let h = subst (λ (z : List ℕ). OnOk c.visit_spans.result (SkippedSpans (work_of c.visit_spans.new.board) z)) (sym (back v.len skips v.items (omega (arith, c.visit_spans.auto.skips, c.deref_mut-2.ensures.len)))) c.visit_spans.ensures.skipped in
    rw c.afterwards.ensures (on_afterwards _ c.in_ok-changed.changed c.visit_spans.result h)

pub returns-clause-visited : goal.returns-clause-visited
returns-clause-visited g c =
    let u = work_of c.visit_spans.new.board in
    ap (λ (r : Result Bool Stop). outcome_of r u) c.afterwards.ensures
    ∙ told_afterwards c.in_ok-changed.changed c.visit_spans.result u
    ∙ ap (also c.in_ok-changed.changed) c.visit_spans.ensures.visited
    ∙ ap (λ (o : Outcome). and_then o (λ w. visit_spans w.spans w)) c.in_ok-changed.ensures.visited

pub returns-in_err-changed-clause-visited : goal.returns-in_err-changed-clause-visited
returns-in_err-changed-clause-visited g c =
    let p = err_from_is_err_and c.from_residual.result c.from_residual.ensures.1 in
    rw (p.1, p.2) (ap (λ (o : Outcome). and_then o (λ w. visit_spans w.spans w)) c.in_err-changed.ensures.visited)

pub visit_duties-requires-clause-well_formed : goal.visit_duties-requires-clause-well_formed
visit_duties-requires-clause-well_formed g c = c.requires.well_formed

pub visit_duties-requires-clause-long : goal.visit_duties-requires-clause-long
visit_duties-requires-clause-long g c = omega (arith, c.args.skips.now.sized.0, c.deref_mut.ensures.len)

pub visit_spans-requires-clause-well_formed : goal.visit_spans-requires-clause-well_formed
visit_spans-requires-clause-well_formed g c =
    let S = setting_of g.F.Feed.readings c.args.self.now in
    (S, c.in_ok-changed.ensures.leaves.well_formed S refl c.requires.well_formed)

pub visit_spans-requires-clause-long : goal.visit_spans-requires-clause-long
visit_spans-requires-clause-long g c = omega (arith, c.args.skips.now.sized.1, c.deref_mut-2.ensures.len)

pub returns-in_err-changed-clause-skipped : goal.returns-in_err-changed-clause-skipped
returns-in_err-changed-clause-skipped g c = let p = err_from_is_err_and c.from_residual.result c.from_residual.ensures.1 in rw p.1 tt

pub returns-in_err-changed-clause-skipped_spans : goal.returns-in_err-changed-clause-skipped_spans
returns-in_err-changed-clause-skipped_spans g c = let p = err_from_is_err_and c.from_residual.result c.from_residual.ensures.1 in rw p.1 tt
