use Rattle.meaning.specs.Intervals.{Setting, under, width}
use Rattle.meaning.specs.Work.{Outcome}
use Rattle.meaning.specs.WellFormed.{WellFormed}
use Rattle.meaning.specs.Passes.{Settles}
use Rattle.meaning.proofs.Measure.{left}
use Rattle.board.specs.Work.{work_of}
use Rattle.settling.specs.Skipped.{Skipped, SkippedSpans}
use Rattle.settling.proofs.passing.settle.Given as goal
use Rattle.sheet.specs.ContentOf.{content_of}

-- what settles the work that is left settles the first one
abbrev pub invariant-loop : goal.invariant-loop
invariant-loop g l =
    let S : Setting = under (content_of l.sheet) (g.F.Feed.readings l.feed) in
    record {
      going : (o : Outcome) → Settles S l.state (work_of l.board) o → Settles S l.state (work_of l.initial.board) o;
      well_formed : WellFormed S (work_of l.board);
      skipped : Skipped S l.state (work_of l.board) l.skips.duties.items;
      skipped_spans : SkippedSpans (work_of l.board) l.skips.spans.items;
    }

-- how much is left to find out
abbrev pub decreases-loop : goal.decreases-loop
decreases-loop g l = left (width (under (content_of l.sheet) (g.F.Feed.readings l.feed))) (work_of l.board)
