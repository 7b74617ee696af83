-- The array is written as the contract says.
use Rattle.std.proofs.Common.{refl}
use Rattle.board.proofs.turning.forget_values.Goals as goal

pub returns : goal.returns
returns c = refl
