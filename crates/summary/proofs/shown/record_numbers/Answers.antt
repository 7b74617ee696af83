-- What stands in the numbers once the recorder is gone is the table of the record.
use Rattle.std.proofs.Common.{◌≡◌, ℕ, ◌*◌, List, length, get_or, ℤ, pos, refl, sym, ap, ◌∙◌, arith, rules}
use Rattle.engine.specs.Meant.{meant}
use Rattle.record.specs.Rows.{table_capacity, rows}
use Rattle.record.proofs.TableRows.{length_rows, rows_fit}
use Rattle.summary.specs.Shown.{WritesFront}
use Rattle.summary.proofs.ShownRuns.{come_of, behind_of}
use Rattle.summary.proofs.shown.record_numbers.Goals as goal

pub returns : goal.returns
returns g c =
    let t = c.new-recorder.result in
    let e = c.new-recorder.ensures in
    let u = c.run_text-closing.new.recorder in
    let n = length_rows u.width u.count u.memory.now in
    let none = ap (λ (m : ℕ). rows t.width m t.memory.now) e.empty in
    let end = length (rows u.width u.count u.memory.now) * c.width.result in
    let written : end ≡ u.count * u.width = rw (sym n, c.width.ensures.answer) refl in
    let long : length u.memory.now ≡ length c.args.numbers.now = search rules in
    let behind = behind_of end c.args.numbers.now u.memory.now (pos 0) long (λ k h. c.run_text-closing.ensures.owner.untouched k (omega (arith, h, written)) ∙ ap (λ (m : List ℤ). get_or m k (pos 0)) e.holds) in
    let front : WritesFront end c.args.numbers.now u.memory.now = record { inside = omega (arith, written, rows_fit u.count u.room u.width (length u.memory.now) u.whole); behind = behind } in
    record { recorder = _; come = come_of _ (g.F.Feed.readings c.args.feed.now) c.args.states table_capacity _ (length c.args.numbers.now) _ t.width t.room c.run_text-closing.result _ (meant c.args.engine.now) (meant c.run_text-closing.new.engine) (ap length e.holds) none e.wide e.roomy c.run_text-closing.ensures.come; wide = c.width.ensures.answer; kept = search rules; front = search rules }
