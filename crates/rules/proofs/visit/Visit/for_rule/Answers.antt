-- There is a round to go.
use Rattle.std.proofs.Common.{arith}
use Rattle.std.proofs.lemmas.Int.{ints}
use Rattle.board.specs.Outcomes.{outcome_of}
use Rattle.board.specs.Work.{work_of}
use Rattle.rules.proofs.OpenedSpans.{for_opens}
use Rattle.rules.proofs.visit.Visit.for_rule.Goals as goal

pub returns : goal.returns
returns g c =
    for_opens c.args.self.now.duty c.numbered.result c.args.p c.args.number _ (work_of c.args.board.now) (outcome_of c.open.result (work_of c.open.new.self)) (grind (arith, ints)) (omega (arith, ints)) c.numbered.ensures c.open.ensures
