-- The recorder's own fact says that its rows and its room make up the capacity.
use Rattle.std.proofs.Common.{arith}
use Rattle.record.proofs.TableRows.{length_rows}
use Rattle.record.proofs.table.TableRecorderRecorder.room.Goals as goal

pub returns-clause-whole : goal.returns-clause-whole
returns-clause-whole c = let s = c.args.self.now in omega (arith, length_rows s.width s.count s.memory.now, s.whole)
