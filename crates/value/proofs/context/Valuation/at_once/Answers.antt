-- What is told of the operands is told of the operation.
use Rattle.std.proofs.Common.{ℕ, ℤ, Some, Err, Option, sym, ap, ◌∙◌, subst, w64, to_z, of_z}
use Rattle.std.proofs.lemmas.Result.{err_from_is_err_and}
use Rattle.sheet.specs.declared.elements.Expression.TheVariants.{Pair, Not}
use Rattle.value.specs.declared.end.End.TheVariants.{Unknown}
use Rattle.value.specs.Values.{apply, negation, map_known}
use Rattle.value.specs.Evaluating.{partial_value, Agrees}
use Rattle.value.proofs.AtOnce.{tells_once, tells_first, tells_second}
use Rattle.value.proofs.WorkingOut.{partial_value-entry, partial_value_within, partial_value_kept, pair_known}
use Rattle.value.proofs.context.Valuation.at_once.Goals as goal

pub returns-in_err-x-in-Pair : goal.returns-in_err-x-in-Pair
returns-in_err-x-in-Pair c end =
    let g = partial_value c.args.self.now.sheet.now c.args.self.now.values.now end in
    let p = c.in-Pair in
    let why = c.in_err-x-in-Pair.field-0.0 in
    let operand = subst (λ (i : ℕ). Agrees (g i) (Err why)) c.from.ensures (c.in_err-x-in-Pair.ensures.told end) in
    let entry = partial_value-entry c.args.self.now.sheet.now c.args.number c.index.result.now (Pair p.o p.a p.b) c.requires.there c.index.ensures p.is c.args.self.now.values.now end in
    let told = subst (λ (o : Option ℤ). Agrees o (Err why)) (sym entry) (tells_first (apply p.o) (g p.a) (g p.b) why operand) in
    let r = err_from_is_err_and c.from_residual.result c.from_residual.ensures.1 in rw (r.1, r.2) told

pub returns-in_err-y-in-Pair : goal.returns-in_err-y-in-Pair
returns-in_err-y-in-Pair c end =
    let g = partial_value c.args.self.now.sheet.now c.args.self.now.values.now end in
    let p = c.in-Pair in
    let why = c.in_err-y-in-Pair.field-0.0 in
    let operand = subst (λ (i : ℕ). Agrees (g i) (Err why)) c.from-in-Pair.ensures (c.in_err-y-in-Pair.ensures.told end) in
    let first = c.in_ok-x-in-Pair.ensures.told end ∙ ap g c.from.ensures in
    let entry = partial_value-entry c.args.self.now.sheet.now c.args.number c.index.result.now (Pair p.o p.a p.b) c.requires.there c.index.ensures p.is c.args.self.now.values.now end in
    let told = subst (λ (o : Option ℤ). Agrees o (Err why)) (sym entry) (tells_second (apply p.o) c.in_ok-x-in-Pair.x (g p.a) (g p.b) why first operand) in
    let r = err_from_is_err_and c.from_residual-in_err-y-in-Pair.result c.from_residual-in_err-y-in-Pair.ensures.1 in rw (r.1, r.2) told

pub returns-in_err-leaf-in-Not : goal.returns-in_err-leaf-in-Not
returns-in_err-leaf-in-Not c end =
    let g = partial_value c.args.self.now.sheet.now c.args.self.now.values.now end in
    let a = c.in-Not.a in
    let why = c.in_err-leaf-in-Not.field-0.0 in
    let operand = subst (λ (i : ℕ). Agrees (g i) (Err why)) c.from-in-Not.ensures (c.in_err-leaf-in-Not.ensures.told end) in
    let entry = partial_value-entry c.args.self.now.sheet.now c.args.number c.index.result.now (Not a) c.requires.there c.index.ensures c.in-Not.is c.args.self.now.values.now end in
    let told = subst (λ (o : Option ℤ). Agrees o (Err why)) (sym entry) (tells_once negation (g a) why operand) in
    let r = err_from_is_err_and c.from_residual-in_err-leaf-in-Not.result c.from_residual-in_err-leaf-in-Not.ensures.1 in rw (r.1, r.2) told

pub applied-requires : goal.applied-requires
applied-requires c =
    let s = c.args.self.now.sheet.now in
    let vs = c.args.self.now.values.now in
    let end = Unknown in
    let x = c.in_ok-x-in-Pair.x in
    let y = c.in_ok-y-in-Pair.y in
    let i = c.from.result in
    let j = c.from-in-Pair.result in (
      partial_value_within s vs end i (Some (to_z w64 (of_z w64 x))) (partial_value_kept s vs end i x (c.in_ok-x-in-Pair.ensures.told end)),
      partial_value_within s vs end j (Some (to_z w64 (of_z w64 y))) (partial_value_kept s vs end j y (c.in_ok-y-in-Pair.ensures.told end)),
    )

pub returns-in_ok-y-in-Pair : goal.returns-in_ok-y-in-Pair
returns-in_ok-y-in-Pair c end =
    let s = c.args.self.now.sheet.now in
    let vs = c.args.self.now.values.now in
    let g = partial_value c.args.self.now.sheet.now c.args.self.now.values.now end in
    let p = c.in-Pair in
    let x = c.in_ok-x-in-Pair.x in
    let y = c.in_ok-y-in-Pair.y in
    let f = partial_value_kept s vs end c.from.result x (c.in_ok-x-in-Pair.ensures.told end) ∙ ap g c.from.ensures in
    let h = partial_value_kept s vs end c.from-in-Pair.result y (c.in_ok-y-in-Pair.ensures.told end) ∙ ap g c.from-in-Pair.ensures in
    partial_value_kept s vs end c.args.number c.applied.result
    (pair_known p.o (to_z w64 (of_z w64 x)) (to_z w64 (of_z w64 y)) c.applied.result (g p.a) (g p.b) c.applied.ensures f h
    ∙ sym (partial_value-entry s c.args.number c.index.result.now (Pair p.o p.a p.b) c.requires.there c.index.ensures p.is vs end))

pub returns-in_ok-leaf-in-Not : goal.returns-in_ok-leaf-in-Not
returns-in_ok-leaf-in-Not c end =
    let s = c.args.self.now.sheet.now in
    let vs = c.args.self.now.values.now in
    let f = partial_value_kept s vs end c.from-in-Not.result c.in_ok-leaf-in-Not.field-0 (c.in_ok-leaf-in-Not.ensures.told end) ∙ ap (partial_value c.args.self.now.sheet.now c.args.self.now.values.now end) c.from-in-Not.ensures in
    partial_value_kept s vs end c.args.number c.negated.result
    (ap (λ (y : ℤ). Some y) c.negated.ensures ∙ ap (map_known negation) f
    ∙ sym (partial_value-entry s c.args.number c.index.result.now (Not c.in-Not.a) c.requires.there c.index.ensures c.in-Not.is vs end))
