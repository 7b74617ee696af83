-- A copy over as many bytes.
use Rattle.std.proofs.Common.{arith}
use Rattle.record.proofs.PlacedParts.{placed_copy}
use Rattle.record.proofs.placing.put_bytes.Goals as goal

pub returns : goal.returns
returns c = placed_copy c.args.part.now c.copy_from_slice.new.self c.args.at _ c.args.bytes.now c.copy_from_slice.ensures.after c.requires (omega arith)
