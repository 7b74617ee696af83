-- An empty line is passed, or the table ends at the place.
use Rattle.std.proofs.Common.{refl, sym, ap, ◌∙◌}
use Rattle.std.proofs.lemmas.List.{at_drop_all}
use Rattle.text.specs.Cut.{before}
use Rattle.cases.specs.Parts.{part_in}
use Rattle.cases.specs.Blocks.{no_line}
use Rattle.cases.proofs.LinesAlike.{line_more}
use Rattle.cases.proofs.table.end_block.Goals as goal

pub returns-in_ok-line_with-clause-ends : goal.returns-in_ok-line_with-clause-ends
returns-in_ok-line_with-clause-ends c =
    let k = c.in_ok-line_with.ensures.cases in
    let says = ap part_in (sym k.1) ∙ k.2 in
    (says, line_more _ _ _ _ _ _ refl no_line k.0 says k.3)

pub returns-else-reader-clause-ends : goal.returns-else-reader-clause-ends
returns-else-reader-clause-ends c = (at_drop_all (λ l. part_in (before 10 l)) _ _ c.if-reader.false, no_line)
