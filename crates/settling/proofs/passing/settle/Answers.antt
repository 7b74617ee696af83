-- A pass that changes something is followed by others; one that changes nothing, or stops, is the last.
use Rattle.std.proofs.Common.{rules, false, sym, subst, arith}
use Rattle.std.proofs.lemmas.Result.{err_from_is_err_and}
use Rattle.meaning.specs.Intervals.{under}
use Rattle.meaning.specs.Work.{stops, goes}
use Rattle.meaning.specs.Rules.{visit, visit_span}
use Rattle.board.specs.Work.{work_of}
use Rattle.settling.proofs.VisitsKeepOrder.{limits_of, back}
use Rattle.settling.specs.Skipped.{Skipped, SkippedSpans}
use Rattle.settling.proofs.ListVisits.{skips_none}
use Rattle.settling.proofs.PassesRepeat.{pass_keeps, stops_there, rests_there, goes_on}
use Rattle.settling.proofs.passing.settle.Goals as goal
use Rattle.sheet.specs.ContentOf.{content_of}

pub returns-in_err-visit_both-clause-settles : goal.returns-in_err-visit_both-clause-settles
returns-in_err-visit_both-clause-settles g c =
    let S = under (content_of c.args.sheet.now) (g.F.Feed.readings c.args.feed.now) in
    let s = c.in_err-visit_both.field-0.0 in
    let p = err_from_is_err_and c.from_residual.result c.from_residual.ensures.1 in
    rw (p.1, p.2) (c.loop.invariant.going (stops s) (stops_there S c.args.state (work_of c.loop.board) s c.in_err-visit_both.ensures.visited))

pub loop-smaller : goal.loop-smaller
loop-smaller g c =
    let S = under (content_of c.args.sheet.now) (g.F.Feed.readings c.args.feed.now) in
    let b = c.in_ok-visit_both in
    (pass_keeps S (limits_of c.args.sheet.now) c.args.state (work_of c.loop.board) (work_of c.visit_both.new.board) b.field-0 c.loop.invariant.well_formed b.ensures.visited).1.lt (search rules depth 1)

pub loop-preserved : goal.loop-preserved
loop-preserved g c =
    let S = under (content_of c.args.sheet.now) (g.F.Feed.readings c.args.feed.now) in
    let b = c.in_ok-visit_both in
    let w = work_of c.loop.board in
    let u = work_of c.visit_both.new.board in
    record {
      going = λ o h. c.loop.invariant.going o (goes_on S c.args.state w u b.field-0 o (search rules depth 1) b.ensures.visited h);
      well_formed = (pass_keeps S (limits_of c.args.sheet.now) c.args.state w u b.field-0 c.loop.invariant.well_formed b.ensures.visited).0;
      skipped = b.ensures.skipped;
      skipped_spans = b.ensures.skipped_spans;
    }

pub returns-clause-settles : goal.returns-clause-settles
returns-clause-settles g c =
    let S = under (content_of c.args.sheet.now) (g.F.Feed.readings c.args.feed.now) in
    let b = c.in_ok-visit_both in
    let u = work_of c.visit_both.new.board in
    c.loop.invariant.going (goes u false) (rests_there S c.args.state (work_of c.loop.board) u b.field-0 (search rules depth 1) b.ensures.visited)

pub returns-clause-well_formed : goal.returns-clause-well_formed
returns-clause-well_formed g c =
    let S = under (content_of c.args.sheet.now) (g.F.Feed.readings c.args.feed.now) in
    let b = c.in_ok-visit_both in
    (pass_keeps S (limits_of c.args.sheet.now) c.args.state (work_of c.loop.board) (work_of c.visit_both.new.board) b.field-0 c.loop.invariant.well_formed b.ensures.visited).0

pub loop-init : goal.loop-init
loop-init g c =
    let S = under (content_of c.args.sheet.now) (g.F.Feed.readings c.args.feed.now) in
    let k = c.args.state in
    let w = work_of c.args.board.now in
    let s = c.args.skips.now in
    record {
      going = λ o h. h;
      well_formed = c.requires;
      skipped = subst (Skipped S k w) (sym (back s.duties.len c.clear.new.skips s.duties.items (omega (arith, c.clear.auto.skips, c.deref_mut.ensures.len)))) (skips_none (λ v. v.duties) (visit S k) w c.clear.new.skips c.clear.ensures);
      skipped_spans = subst (SkippedSpans w) (sym (back s.spans.len c.clear-2.new.skips s.spans.items (omega (arith, c.clear-2.auto.skips, c.deref_mut-2.ensures.len)))) (skips_none (λ v. v.spans) visit_span w c.clear-2.new.skips c.clear-2.ensures);
    }
