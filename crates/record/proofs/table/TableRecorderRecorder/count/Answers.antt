-- There are as many rows as were counted.
use Rattle.record.proofs.TableRows.{length_rows}
use Rattle.record.proofs.table.TableRecorderRecorder.count.Goals as goal

pub returns : goal.returns
returns c = length_rows c.args.self.now.width c.args.self.now.count c.args.self.now.memory.now
