-- An empty record has no text.
use Rattle.record.proofs.ReadBack.{none_read}
use Rattle.record.proofs.RecordTexts.{told_none}
use Rattle.record.proofs.text_recorder.TextRecorderRecorder.start.Goals as goal

pub invariant_of-self-clause-told : goal.invariant_of-self-clause-told
invariant_of-self-clause-told c = told_none c.args.width _

pub returns-clause-listed : goal.returns-clause-listed
returns-clause-listed c = none_read c.args.width _
