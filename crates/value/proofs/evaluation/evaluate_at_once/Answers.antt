-- What a scene without an end tells is right for every end, and past the end of the expressions the number is 0.
use Rattle.std.proofs.Common.{ℕ, ◌≤◌, length, pos, Some, vec_items, sym, subst, arith}
use Rattle.value.specs.Values.{known, valued}
use Rattle.value.specs.Evaluating.{partial_value, Agrees}
use Rattle.value.proofs.EntryByEntry.{table_past}
use Rattle.value.proofs.evaluation.evaluate_at_once.Goals as goal

pub returns-then-place-len : goal.returns-then-place-len
returns-then-place-len c end =
    let s = c.args.sheet.now in
    let es = vec_items s.tables.expressions in
    let h : length es ≤ c.args.number = omega (arith, s.tables.expressions.ok.0) in
    sym (table_past (known (valued (vec_items s.tables.variables) c.args.values.now) end) (Some (pos 0)) es c.args.number h)

pub returns : goal.returns
returns c end = subst (λ (i : ℕ). Agrees (partial_value c.args.sheet.now c.args.values.now end i) c.at_once.result) c.from-place.ensures (c.at_once.ensures end)
