-- An empty record has no text.
use Rattle.record.proofs.ReadBack.{reads_back}
use Rattle.record.proofs.RecordTexts.{told_none}
use Rattle.record.proofs.text_recorder.TextRecorder.new.Goals as goal

pub invariant_of-result-clause-told : goal.invariant_of-result-clause-told
invariant_of-result-clause-told c = told_none 1 _

pub returns-clause-law : goal.returns-clause-law
returns-clause-law c = reads_back
