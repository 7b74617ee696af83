-- Each turn writes the next value's line behind the others.
use Rattle.std.proofs.Common.{ℤ, ◌++◌, length, take, get_or, pos, sym, ap, ◌∙◌, w64, to_z, of_z, FitsSigned, rules, arith}
use Rattle.std.proofs.lemmas.Int.{to_z-of_z}
use Rattle.record.specs.StatesText.{value_line, value_lines}
use Rattle.record.proofs.OneMoreState.{values_none, values_more, value_line_fits}
use Rattle.record.proofs.PlacedParts.{placed_none, placed_then, placed_as}
use Rattle.record.proofs.placing.put_values.Goals as goal

pub loop-variable-init : goal.loop-variable-init
loop-variable-init c = placed_as _ _ _ _ _ _ (values_none c.args.values.now) (placed_none c.args.at c.args.bytes.now)

pub put_value-end-requires : goal.put_value-end-requires
put_value-end-requires c =
    let xs = c.args.values.now in
    let j = c.loop-variable.variable in
    let s : FitsSigned w64 (get_or xs j (pos 0)) = search rules in
    let v = to_z-of_z w64 (get_or xs j (pos 0)) s in
    let l = value_line_fits xs j (pos 0) c.args.at c.loop-variable.end (length c.args.bytes.now) c.loop-variable-test.true c.loop-variable.invariant.end c.requires in
    omega (arith, ap (λ (z : ℤ). length (value_line j z)) v, l)

pub loop-variable-preserved : goal.loop-variable-preserved
loop-variable-preserved c =
    let xs = c.args.values.now in
    let j = c.loop-variable.variable in
    let s : FitsSigned w64 (get_or xs j (pos 0)) = search rules in
    let v = to_z-of_z w64 (get_or xs j (pos 0)) s in
    let both = placed_then (value_lines 0 (take j xs)) (value_line j (to_z w64 (of_z w64 (get_or xs j (pos 0))))) _ _ _ _ _ _ c.loop-variable.invariant c.put_value-end.ensures in
    placed_as _ _ _ _ _ _ (ap (λ (z : ℤ). value_lines 0 (take j xs) ++ value_line j z) v ∙ sym (values_more xs j (pos 0) c.loop-variable-test.true)) both
