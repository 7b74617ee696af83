use Rattle.std.proofs.Common.{sym, ap}
use Rattle.load.specs.RefusalText.{sentence}
use Rattle.load.proofs.refusals.Refusal.reason.Goals as goal

pub returns-in-Length : goal.returns-in-Length
returns-in-Length c = sym (ap sentence c.in-Length.is)

pub returns-in-Unended : goal.returns-in-Unended
returns-in-Unended c = sym (ap sentence c.in-Unended.is)

pub returns-in-Header : goal.returns-in-Header
returns-in-Header c = sym (ap sentence c.in-Header.is)

pub returns-in-NoRun : goal.returns-in-NoRun
returns-in-NoRun c = sym (ap sentence c.in-NoRun.is)
