-- The lines of the values so far are written.
use Rattle.std.proofs.Common.{take}
use Rattle.record.specs.Placing.{Placed}
use Rattle.record.specs.StatesText.{value_lines}
use Rattle.record.proofs.placing.put_values.Given as goal

abbrev pub invariant-loop-variable : goal.invariant-loop-variable
invariant-loop-variable l = Placed (value_lines 0 (take l.variable l.values)) l.at l.initial.bytes l.end l.bytes
