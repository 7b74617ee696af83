use Rattle.std.proofs.Common.{sym, ap}
use Rattle.load.specs.RefusalText.{fault_sentence}
use Rattle.load.proofs.refusal_text.fault_reason.Goals as goal

pub returns-in-Form : goal.returns-in-Form
returns-in-Form c = sym (ap fault_sentence c.in-Form.is)

pub returns-in-Name : goal.returns-in-Name
returns-in-Name c = sym (ap fault_sentence c.in-Name.is)

pub returns-in-Size : goal.returns-in-Size
returns-in-Size c = sym (ap fault_sentence c.in-Size.is)
