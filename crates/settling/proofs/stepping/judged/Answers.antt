-- Nothing is left open, and the end is known.
use Rattle.std.proofs.Common.{Option, sym, ap, ◌∙◌}
use Rattle.meaning.specs.declared.duties.LeftOpen.{LeftOpen}
use Rattle.meaning.specs.Runs.{judged_by}
use Rattle.board.specs.Work.{work_of}
use Rattle.settling.proofs.StateEnds.{judged_end}
use Rattle.settling.proofs.stepping.judged.Goals as goal

pub returns-in_default-end_of : goal.returns-in_default-end_of
returns-in_default-end_of c =
    judged_end c.args.width (work_of c.args.board.now) c.numbers.result c.end_of.result c.eq.result c.requires c.numbers.ensures c.end_of.ensures c.in_default-end_of.not-Unknown c.eq.ensures
    (sym c.in_default.is ∙ c.left_open.ensures)

pub returns-in-Some : goal.returns-in-Some
returns-in-Some c = ap (λ (z : Option LeftOpen). judged_by z c.args.width (work_of c.args.board.now)) c.in-Some.ensures
