-- The third line stands behind the two of the verdict.
use Rattle.std.proofs.Common.{◌≡◌, ℕ, ◌++◌, sym, ap, ◌∙◌, codes, arith, rules}
use Rattle.meaning.specs.Runs.{open_number}
use Rattle.record.specs.StatesText.{number_line}
use Rattle.record.proofs.PlacedParts.{placed_then, placed_as}
use Rattle.summary.specs.ClosingText.{status_lines, stopped_lines}
use Rattle.summary.proofs.LineLengths.{line_short}
use Rattle.summary.proofs.put_lines.put_stopped.Goals as goal

pub put_line-requires : goal.put_line-requires
put_line-requires c = omega (arith, c.requires.long, line_short (codes "statement=") c.from.result (search rules), c.put_standing-at.ensures.within, c.put_standing-at.auto.bytes)

pub put_line-requires-in-Undetermined : goal.put_line-requires-in-Undetermined
put_line-requires-in-Undetermined c = omega (arith, c.requires.long, line_short (codes "variable=") c.from-in-Undetermined.result (search rules), c.put_standing-at-in-Undetermined.ensures.within, c.put_standing-at-in-Undetermined.auto.bytes)

pub returns-in-Contradiction-clause-placed : goal.returns-in-Contradiction-clause-placed
returns-in-Contradiction-clause-placed c =
    let k = c.args.cause.state in
    let stand = status_lines (codes "contradiction") k in
    let key = codes "statement=" in
    let number : c.from.result ≡ c.in-Contradiction.statement = search rules in
    let both = placed_then stand (number_line key c.from.result) _ _ _ _ _ _ c.put_standing-at.ensures.placed c.put_line.ensures in
    placed_as _ (stopped_lines k c.args.cause.stop) _ _ _ _ (ap (λ (n : ℕ). stand ++ number_line key n) number ∙ ap (stopped_lines k) (sym c.in-Contradiction.is)) both

pub returns-in-Contradiction-clause-within : goal.returns-in-Contradiction-clause-within
returns-in-Contradiction-clause-within c = omega (arith, line_short (codes "statement=") c.from.result (search rules), c.put_standing-at.ensures.within, c.put_line.ensures.end)

pub returns-in-Undetermined-clause-placed : goal.returns-in-Undetermined-clause-placed
returns-in-Undetermined-clause-placed c =
    let k = c.args.cause.state in
    let stand = status_lines (codes "undetermined") k in
    let key = codes "variable=" in
    let number : c.from-in-Undetermined.result ≡ open_number c.in-Undetermined.left = search rules in
    let both = placed_then stand (number_line key c.from-in-Undetermined.result) _ _ _ _ _ _ c.put_standing-at-in-Undetermined.ensures.placed c.put_line-in-Undetermined.ensures in
    placed_as _ (stopped_lines k c.args.cause.stop) _ _ _ _ (ap (λ (n : ℕ). stand ++ number_line key n) number ∙ ap (stopped_lines k) (sym c.in-Undetermined.is)) both

pub returns-in-Undetermined-clause-within : goal.returns-in-Undetermined-clause-within
returns-in-Undetermined-clause-within c = omega (arith, line_short (codes "variable=") c.from-in-Undetermined.result (search rules), c.put_standing-at-in-Undetermined.ensures.within, c.put_line-in-Undetermined.ensures.end)
