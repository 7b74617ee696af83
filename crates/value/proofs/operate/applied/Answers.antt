-- The product of two small numbers fits.
use Rattle.std.proofs.Common.{sym, ap, arith}
use Rattle.std.proofs.lemmas.Int.{to_z-of_z}
use Rattle.sheet.specs.declared.elements.Operator.{Operator}
use Rattle.value.specs.Values.{apply}
use Rattle.value.proofs.Magnitudes.{abs_fits, product_fits}
use Rattle.value.proofs.operate.applied.Goals as goal

pub overflow_mul-result : goal.overflow_mul-result
overflow_mul-result c =
    let f = abs_fits c.args.x (omega arith) in
    let g = abs_fits c.args.y (omega arith) in
    simp to_z-of_z (product_fits c.args.x c.args.y c.requires.0 c.requires.1)

pub returns-in-Mul : goal.returns-in-Mul
returns-in-Mul c =
    let f = abs_fits c.args.x (omega arith) in
    let g = abs_fits c.args.y (omega arith) in
    let h = product_fits c.args.x c.args.y c.requires.0 c.requires.1 in
    simp to_z-of_z (sym (ap (λ (o : Operator). apply o c.args.x c.args.y) c.in-Mul.is))
