-- Each expression's operands are lower, and what is known of them gives what is known of it. So what is kept for it is right.
use Rattle.std.proofs.Common.{◌≡◌, ℕ, ◌<◌, ℤ, Some, Option, length, sym, ap, ◌∙◌, refl, subst, arith, w64, to_z, of_z, vec_items, rules}
use Rattle.sheet.specs.declared.elements.Expression.TheVariants.{Pair, Not, Last}
use Rattle.value.specs.Values.{apply, negation, map_known, map_both_known}
use Rattle.value.specs.AtOnce.{partial_value_in, asks}
use Rattle.value.specs.Memory.{AllRight}
use Rattle.value.proofs.Numbers.{pair_lower}
use Rattle.value.proofs.AtOnce.{result_ok-tells, asks_not}
use Rattle.value.proofs.WorkingOut.{stands, lawful, partial_value-entry, partial_value_within, partial_value_kept, pair_known, filled_right}
use Rattle.value.proofs.evaluation.+working.Goals as goal
use Rattle.value.proofs.evaluation.+working.Goals.{worked-in-Pair+in_ok-x-in-Pair+in_ok-y-in-Pair, worked-in-Not+in_ok-operand-in-Not}

pub worked-returns-in_err-x-in-Pair-clause-answer : goal.worked-returns-in_err-x-in-Pair-clause-answer
worked-returns-in_err-x-in-Pair-clause-answer t c =
    let g = partial_value_in c.args.scene.now in
    let p = c.in-Pair in
    c.from_residual.ensures ∙ ap (λ (y : Option ℤ). map_both_known (apply p.o) y (g p.b)) (c.in_err-x-in-Pair.ensures.answer ∙ ap g c.from.ensures)
    ∙ sym (partial_value-entry c.args.scene.now.known.sheet.now c.args.number c.index.result.now (Pair p.o p.a p.b) c.requires.there c.index.ensures p.is c.args.scene.now.known.values.now c.args.scene.now.end)

pub worked-returns-in_err-y-in-Pair-clause-answer : goal.worked-returns-in_err-y-in-Pair-clause-answer
worked-returns-in_err-y-in-Pair-clause-answer t c =
    let g = partial_value_in c.args.scene.now in
    let p = c.in-Pair in
    c.from_residual-in_err-y-in-Pair.ensures ∙ ap (map_both_known (apply p.o) (Some c.in_ok-x-in-Pair.x)) (c.in_err-y-in-Pair.ensures.answer ∙ ap g c.from-in-Pair.ensures)
    ∙ ap (λ (y : Option ℤ). map_both_known (apply p.o) y (g p.b)) (c.in_ok-x-in-Pair.ensures.answer ∙ ap g c.from.ensures)
    ∙ sym (partial_value-entry c.args.scene.now.known.sheet.now c.args.number c.index.result.now (Pair p.o p.a p.b) c.requires.there c.index.ensures p.is c.args.scene.now.known.values.now c.args.scene.now.end)

pub worked-operand-requires-in-Pair : goal.worked-operand-requires-in-Pair
worked-operand-requires-in-Pair t c =
    let s = c.args.scene.now.known.sheet.now in
    let p = c.in-Pair in
    let j = c.from-in-Pair.result in
    let rule = lawful s c.args.number c.index.result.now (Pair p.o p.a p.b) c.requires.there c.index.ensures p.is in
    let lower = pair_lower (length (vec_items s.tables.variables)) c.args.number p.a p.b p.o rule in
    let below : j < c.args.number = subst (λ (k : ℕ). k < c.args.number) (sym c.from-in-Pair.ensures) lower.1 in
    let right : AllRight (partial_value_in c.args.scene.now) j c.operand.new.memo = c.operand.ensures.right j (λ k h. c.requires.right k (omega arith)) in
    search rules

pub worked-applied-z-requires : goal.worked-applied-z-requires
worked-applied-z-requires t c =
    let s = c.args.scene.now.known.sheet.now in
    let vs = c.args.scene.now.known.values.now in
    let end = c.args.scene.now.end in
    let x = c.in_ok-x-in-Pair.x in
    let y = c.in_ok-y-in-Pair.y in
    let i = c.from.result in
    let j = c.from-in-Pair.result in (
      partial_value_within s vs end i (Some (to_z w64 (of_z w64 x))) (partial_value_kept s vs end i x c.in_ok-x-in-Pair.ensures.answer),
      partial_value_within s vs end j (Some (to_z w64 (of_z w64 y))) (partial_value_kept s vs end j y c.in_ok-y-in-Pair.ensures.answer),
    )

pub worked-returns-in_err-operand-in-Not-clause-answer : goal.worked-returns-in_err-operand-in-Not-clause-answer
worked-returns-in_err-operand-in-Not-clause-answer t c =
    c.from_residual-in_err-operand-in-Not.ensures ∙ ap (map_known negation) (c.in_err-operand-in-Not.ensures.answer ∙ ap (partial_value_in c.args.scene.now) c.from-in-Not.ensures)
    ∙ sym (partial_value-entry c.args.scene.now.known.sheet.now c.args.number c.index.result.now (Not c.in-Not.a) c.requires.there c.index.ensures c.in-Not.is c.args.scene.now.known.values.now c.args.scene.now.end)

pub worked-returns-in-Last-clause-answer : goal.worked-returns-in-Last-clause-answer
worked-returns-in-Last-clause-answer t c =
    c.ended.ensures
    ∙ sym (partial_value-entry c.args.scene.now.known.sheet.now c.args.number c.index.result.now Last c.requires.there c.index.ensures c.in-Last.is c.args.scene.now.known.values.now c.args.scene.now.end)

pub worked-returns-in_default-clause-answer : goal.worked-returns-in_default-clause-answer
worked-returns-in_default-clause-answer t c =
    let e = c.index.result.now in
    let at = stands c.args.scene.now.known.sheet.now c.args.number e e c.requires.there c.index.ensures refl in
    let leaf = asks_not e c.in_default.not-Pair c.in_default.not-Not c.in_default.not-Last in
    c.ok.ensures.value ∙ result_ok-tells (partial_value_in c.args.scene.now c.args.number) c.leaf.result (c.leaf.ensures.told c.args.scene.now.end) (c.leaf.ensures.more ∙ ap asks at ∙ leaf)

pub worked-returns : goal.worked-returns
worked-returns t c =
    let s = c.args.scene.now.known.sheet.now in
    let vs = c.args.scene.now.known.values.now in
    let end = c.args.scene.now.end in
    let i = c.args.number in
    let e = c.index.result.now in
    let g = partial_value_in c.args.scene.now in
    let m = c.match-index.memo in
    let z = to_z w64 c.match-index.z-bits in
    let kept = partial_value_kept s vs end in
    let both : (Some z ≡ g i) × ((n : ℕ) → AllRight g n c.args.memo.now → AllRight g n m) = elim c.match-index.branch [
      | worked-in-Pair+in_ok-x-in-Pair+in_ok-y-in-Pair w ↦
          let p = w.in-Pair in
          let x = w.in_ok-x-in-Pair.x in
          let y = w.in_ok-y-in-Pair.y in
          let f = kept w.from.result x w.in_ok-x-in-Pair.ensures.answer ∙ ap g w.from.ensures in
          let h = kept w.from-in-Pair.result y w.in_ok-y-in-Pair.ensures.answer ∙ ap g w.from-in-Pair.ensures in (
            ap (λ (y : ℤ). Some y) w.z-is
                ∙ kept i w.applied-z.result (pair_known p.o (to_z w64 (of_z w64 x)) (to_z w64 (of_z w64 y)) w.applied-z.result (g p.a) (g p.b) w.applied-z.ensures f h
                ∙ sym (partial_value-entry s i e (Pair p.o p.a p.b) c.requires.there c.index.ensures p.is vs end)),
            λ n all. subst (AllRight g n) (sym w.memo-is) (w.operand-in-Pair.ensures.right n (w.operand.ensures.right n all)),
          )
      | worked-in-Not+in_ok-operand-in-Not w ↦
          let f = kept w.from-in-Not.result w.in_ok-operand-in-Not.field-0 w.in_ok-operand-in-Not.ensures.answer ∙ ap g w.from-in-Not.ensures in (
            ap (λ (y : ℤ). Some y) w.z-is
                ∙ kept i w.negated-z.result (ap (λ (y : ℤ). Some y) w.negated-z.ensures ∙ ap (map_known negation) f
                ∙ sym (partial_value-entry s i e (Not w.in-Not.a) c.requires.there c.index.ensures w.in-Not.is vs end)),
            λ n all. subst (AllRight g n) (sym w.memo-is) (w.operand-in-Not.ensures.right n all),
          )
    ] in
    record { answer = both.0; right = λ n all k h. filled_right g m.seen.items m.numbers.items i z k (both.1 n all k h) (omega arith) both.0 }
