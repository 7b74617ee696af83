-- The test is not 0.
use Rattle.board.specs.Outcomes.{outcome_of}
use Rattle.board.specs.Work.{work_of}
use Rattle.rules.proofs.OpenedSpans.{while_opens}
use Rattle.rules.proofs.visit.Visit.while_rule.Goals as goal

pub returns : goal.returns
returns g c =
    while_opens c.args.self.now.duty c.plain.result c.args.p c.args.number (work_of c.args.board.now) (outcome_of c.open.result (work_of c.open.new.self)) c.if-number-eq0.false c.plain.ensures c.open.ensures
