use Rattle.std.proofs.Common.{◌+◌, ◌*◌}
use Rattle.value.proofs.evaluation.+working.Given as goal

-- the number falls from an expression to its operands
abbrev pub decreases-operand : goal.decreases-operand
decreases-operand l = 2 * l.number + 1

-- and an expression is worked out as itself
abbrev pub decreases-worked : goal.decreases-worked
decreases-worked l = 2 * l.number
