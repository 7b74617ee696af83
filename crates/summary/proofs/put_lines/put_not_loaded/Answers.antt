-- The lines stand one behind the other.
use Rattle.std.proofs.Common.{◌++◌, ap, codes, arith, rules}
use Rattle.calls.specs.Published.{text_number, text_line, text_word}
use Rattle.record.specs.StatesText.{number_line}
use Rattle.record.proofs.PlacedParts.{placed_then, placed_as}
use Rattle.summary.proofs.LineLengths.{line_short}
use Rattle.summary.proofs.put_lines.put_not_loaded.Goals as goal

pub put_line-at-requires : goal.put_line-at-requires
put_line-at-requires c = omega (arith, c.requires.long, line_short (codes "refused=") c.from.result (search rules))

pub put_line-at-requires-2 : goal.put_line-at-requires-2
put_line-at-requires-2 c = omega (arith, c.requires.long, line_short (codes "refused=") c.from.result (search rules), line_short (codes "line=") c.line.result (search rules), c.put_line-at.ensures.end, c.put_line-at.auto.bytes)

pub put_line-requires : goal.put_line-requires
put_line-requires c = omega (arith, c.requires.long, line_short (codes "refused=") c.from.result (search rules), line_short (codes "line=") c.line.result (search rules), line_short (codes "word=") c.from-2.result (search rules), c.put_line-at.ensures.end, c.put_line-at.auto.bytes, c.put_line-at-2.ensures.end, c.put_line-at-2.auto.bytes)

pub returns-clause-placed : goal.returns-clause-placed
returns-clause-placed c =
    let x = c.args.text in
    let refused = number_line (codes "refused=") (text_number x) in
    let line = number_line (codes "line=") (text_line x) in
    let word = number_line (codes "word=") (text_word x) in
    let first = placed_as _ refused _ _ _ _ (ap (number_line (codes "refused=")) (search rules)) c.put_line-at.ensures in
    let second = placed_as _ line _ _ _ _ (ap (number_line (codes "line=")) c.line.ensures) c.put_line-at-2.ensures in
    let third = placed_as _ word _ _ _ _ (ap (number_line (codes "word=")) (search rules)) c.put_line.ensures in
    placed_then (refused ++ line) word _ _ _ _ _ _ (placed_then refused line _ _ _ _ _ _ first second) third

pub returns-clause-within : goal.returns-clause-within
returns-clause-within c = omega (arith, line_short (codes "refused=") c.from.result (search rules), line_short (codes "line=") c.line.result (search rules), line_short (codes "word=") c.from-2.result (search rules), c.put_line-at.ensures.end, c.put_line-at-2.ensures.end, c.put_line.ensures.end)
