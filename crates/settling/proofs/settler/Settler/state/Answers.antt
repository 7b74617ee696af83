-- It is the field.
use Rattle.std.proofs.Common.{refl}
use Rattle.settling.proofs.settler.Settler.state.Goals as goal

pub returns : goal.returns
returns c = refl
