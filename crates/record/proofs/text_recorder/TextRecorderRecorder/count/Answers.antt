-- There are as many states as were counted.
use Rattle.std.proofs.Common.{sym}
use Rattle.record.proofs.ReadBack.{length_states}
use Rattle.record.proofs.text_recorder.TextRecorderRecorder.count.Goals as goal

pub returns : goal.returns
returns c = sym (length_states _ _ _)
