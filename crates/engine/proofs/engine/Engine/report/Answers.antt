-- How it has ended is what the condition holds.
use Rattle.std.proofs.Common.{sym, ap}
use Rattle.calls.specs.declared.answers.Condition.{Condition}
use Rattle.calls.specs.Calls.{report_of}
use Rattle.engine.specs.Meant.{standing_by}
use Rattle.engine.proofs.engine.Engine.report.Goals as goal

pub returns-in-Ended : goal.returns-in-Ended
returns-in-Ended c = ap (λ (x : Condition). report_of (standing_by x c.args.self.now.settler)) (sym c.in-Ended.is)
