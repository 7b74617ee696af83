-- The first line closes the run, and the further ones are behind it.
use Rattle.std.proofs.Common.{List, ℕ, Bor, sym, ap, ◌∙◌}
use Rattle.cases.specs.Parts.{part_in}
use Rattle.cases.specs.Blocks.{between}
use Rattle.cases.proofs.LinesAlike.{say_moved}
use Rattle.cases.proofs.table.closing_lines.Goals as goal

pub returns-clause-lines : goal.returns-clause-lines
returns-clause-lines c =
    let k = c.in_ok-line_with.ensures.cases in
    let same = c.line_with.ensures.text in
    let all = ap (λ (s : Bor (List ℕ)). between s.now c.args.reader.now.place c.lines_with.new.reader.place) (c.lines_with.ensures.text ∙ same) in
    (ap part_in (sym k.1) ∙ k.2, say_moved _ _ _ _ _ _ same k.3 c.lines_with.ensures.say, c.lines_from.ensures ∙ all)
