-- The recorder's own fact says that its states and its room make up the capacity.
use Rattle.std.proofs.Common.{take, arith}
use Rattle.record.proofs.ReadBack.{length_states}
use Rattle.record.proofs.text_recorder.TextRecorderRecorder.room.Goals as goal

pub returns-clause-whole : goal.returns-clause-whole
returns-clause-whole c = let s = c.args.self.now in omega (arith, length_states s.width s.count (take s.written_length s.memory.now), s.whole)
