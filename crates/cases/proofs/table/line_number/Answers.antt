-- The line ends ahead of the place are counted.
use Rattle.std.proofs.Common.{arith}
use Rattle.std.proofs.lemmas.Grind.{common_steps}
use Rattle.cases.proofs.table.line_number.Goals as goal

pub returns : goal.returns
returns c = grind (arith, common_steps)
