-- What is told has all that is promised, and past the end the number is 0.
use Rattle.std.proofs.Common.{◌≤◌, length, pos, Some, vec_items, sym, ap, ◌∙◌, arith}
use Rattle.value.specs.Values.{known, valued}
use Rattle.value.specs.Evaluating.{partial_value}
use Rattle.value.proofs.EntryByEntry.{table_past}
use Rattle.value.proofs.WorkingOut.{partial_value_within, partial_value_total}
use Rattle.value.proofs.evaluation.evaluate.Goals as goal

pub returns-then-place-len : goal.returns-then-place-len
returns-then-place-len c =
    let s = c.args.sheet.now in
    let es = vec_items s.tables.expressions in
    let h : length es ≤ c.args.number = omega (arith, s.tables.expressions.ok.0) in
    let a = sym (table_past (known (valued (vec_items s.tables.variables) c.args.values.now) c.args.end) (Some (pos 0)) es c.args.number h) in
    record { answer = a; total = partial_value_total s c.args.values.now c.args.end c.args.number (Some (pos 0)) a; bound = omega arith }

pub returns : goal.returns
returns c =
    let s = c.args.sheet.now in
    let vs = c.args.values.now in
    let end = c.args.end in
    let i = c.args.number in
    let r = c.worked.result in
    let a = c.worked.ensures.answer ∙ ap (partial_value s vs end) c.from-place.ensures in
    record { answer = a; total = partial_value_total s vs end i r a; bound = partial_value_within s vs end i r a }
