-- The bytes go through the map one at a time.
use Rattle.std.proofs.Common.{rules}
use Rattle.cases.proofs.packed.unpacked.Goals as goal

pub returns : goal.returns
returns c = search rules
