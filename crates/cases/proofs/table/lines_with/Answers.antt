-- Each turn passes one line more.
use Rattle.std.proofs.Common.{List, ℕ, refl, sym, ap, ◌∙◌}
use Rattle.std.specs.Borrow.{Bor}
use Rattle.cases.specs.Parts.{part_in}
use Rattle.cases.specs.Blocks.{no_line}
use Rattle.cases.proofs.LinesAlike.{line_more}
use Rattle.cases.proofs.table.lines_with.Goals as goal

pub loop-init : goal.loop-init
loop-init c = (refl, no_line)

pub loop-preserved : goal.loop-preserved
loop-preserved c =
    let l = c.loop.invariant in
    let k = c.in-Some.ensures.cases in
    let same = ap (λ (s : Bor (List ℕ)). s.now) l.0 in
    (c.line_with.ensures.text ∙ l.0, line_more _ _ _ _ _ _ same l.1 k.0 (ap part_in (sym k.1) ∙ k.2) k.3)
