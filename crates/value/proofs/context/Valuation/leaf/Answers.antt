-- A number has the number that it says, and a variable its own.
use Rattle.std.proofs.Common.{ℤ, Some, Result, sym, ap, ◌∙◌, subst, arith}
use Rattle.std.proofs.lemmas.Int.{ints}
use Rattle.sheet.specs.declared.elements.Expression.TheVariants.{Num}
use Rattle.value.specs.declared.end.Pending.{Pending}
use Rattle.value.specs.Evaluating.{partial_value, Agrees}
use Rattle.value.proofs.AtOnce.{tells_ok_or}
use Rattle.value.proofs.WorkingOut.{partial_value-entry, variable_partial_value, partial_value_kept}
use Rattle.value.proofs.context.Valuation.leaf.Goals as goal

pub returns-in-Num-clause-told : goal.returns-in-Num-clause-told
returns-in-Num-clause-told c end =
    let s = c.args.self.now.sheet.now in
    let vs = c.args.self.now.values.now in
    partial_value_kept s vs end c.args.number c.from.result
    (ap (λ (y : ℤ). Some y) (omega (arith, ints, c.from.ensures)) ∙ sym (partial_value-entry s c.args.number c.index.result.now (Num c.in-Num.c) c.requires.there c.index.ensures c.in-Num.is vs end))

pub returns-in-Val-clause-told : goal.returns-in-Val-clause-told
returns-in-Val-clause-told c end =
    let s = c.args.self.now.sheet.now in
    let vs = c.args.self.now.values.now in
    let known = partial_value s vs end c.args.number in
    subst (λ (r : Result ℤ Pending). Agrees known r) (sym c.ok_or.ensures.value)
    (tells_ok_or c.within_range.result known (c.within_range.ensures
    ∙ variable_partial_value s vs end c.args.number c.index.result.now c.in-Val.x c.from-x.result c.index-in-Val.result.now c.value_at.result c.requires.there c.index.ensures c.in-Val.is c.from-x.ensures c.index-in-Val.ensures c.value_at.ensures))
