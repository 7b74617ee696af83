-- A value that is there lies in its row; else the state or the variable is not there.
use Rattle.std.proofs.Common.{length, rules}
use Rattle.record.proofs.TableRows.{rows_fit, look_inside, look_past, look_wide}
use Rattle.record.proofs.table.TableRecorderRecorder.look.Goals as goal

pub returns-then-variable-self : goal.returns-then-variable-self
returns-then-variable-self c =
    let s = c.args.self.now in
    let e = look_inside s.width s.count c.args.state c.args.variable s.memory.now c.if-state-self.true c.if-variable-self.true (rows_fit s.count s.room s.width (length s.memory.now) s.whole) in
    search rules

pub returns-else-state-self : goal.returns-else-state-self
returns-else-state-self c = search (rules, look_past, look_wide)
