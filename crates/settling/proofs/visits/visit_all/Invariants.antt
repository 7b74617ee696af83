use Rattle.std.proofs.Common.{◌≡◌, suc, ◌+◌, ◌-◌, ◌≤◌, length, get_or}
use Rattle.meaning.specs.Work.{also}
use Rattle.board.specs.Work.{work_of}
use Rattle.settling.specs.Walks.{visit_from, SkippedBy, Leaves}
use Rattle.settling.proofs.visits.visit_all.Given as goal

-- what has changed so far, and the items from the last one on that waits, make the whole
abbrev pub invariant-loop-item : goal.invariant-loop-item
invariant-loop-item g l =
    let V = g.P.Visitor in
    record {
      going : also l.changed (visit_from V.items (V.visited l.pass) (suc V.most - l.from) l.from (work_of l.board)) ≡ visit_from V.items (V.visited l.pass) (suc V.most) 0 (work_of l.initial.board);
      skipped : SkippedBy V.items (V.visited l.pass) (work_of l.board) l.skips;
      leaves : Leaves (V.within l.pass) (work_of l.initial.board) (work_of l.board);
      leads : l.place ≡ l.from + get_or l.skips l.from 0;
      within : l.from ≤ length (V.items (work_of l.board));
    }

abbrev pub decreases-loop-item : goal.decreases-loop-item
decreases-loop-item g l = g.P.Visitor.most - l.place
