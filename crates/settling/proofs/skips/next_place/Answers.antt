-- A skip is short, and so is a slice.
use Rattle.std.proofs.Common.{◌+◌, ℕ, ap, arith}
use Rattle.settling.proofs.skips.next_place.Goals as goal

pub returns : goal.returns
returns c = ap (λ (z : ℕ). c.args.from + z) c.from.ensures

pub overflow_add-result : goal.overflow_add-result
overflow_add-result c = omega (arith, c.type_inv.skips c.args.from)
