-- A text on one line has its answer behind it, or what is shown of its run.
use Rattle.std.proofs.Common.{List, ℕ, drop, Bor, sym, ap, ◌∙◌, subst}
use Rattle.cases.specs.Parts.{part_in}
use Rattle.cases.specs.Blocks.{behind_line, between, line_from}
use Rattle.cases.proofs.LinesAlike.{Closes, moved, say_moved}
use Rattle.cases.proofs.table.read_kind.Goals as goal

pub returns-in-Some-line_with-clause-stands : goal.returns-in-Some-line_with-clause-stands
returns-in-Some-line_with-clause-stands c =
    let k = c.in-Some.ensures.cases in
    let next = c.in-Some-line_with.ensures.cases in
    let same = c.line_with.ensures.text in
    let line = next.1 ∙ moved line_from _ _ _ _ same k.3 in
    record {
      first = ap part_in (sym k.1) ∙ k.2;
      packed = c.in_ok-packed.ensures.cases.1 ∙ ap (drop 5) k.1;
      second = ap part_in (sym line) ∙ next.2;
      answer = c.in_ok-answer.ensures.cases.1 ∙ ap (drop 7) line;
      over = next.3 ∙ moved behind_line _ _ _ _ same k.3;
    }

pub returns-clause-stands : goal.returns-clause-stands
returns-clause-stands c =
    let k = c.in-Some.ensures.cases in
    let at = c.lines_with-record.new.reader.place in
    let same = c.line_with-2.ensures.text ∙ c.line_with.ensures.text in
    let place = c.in_default-line_with.ensures.cases ∙ k.3 in
    let close = subst (λ (t : Bor (List ℕ)). Closes t at c.closing_lines.new.reader.place c.in_ok-closing.closing) (c.lines_with-record.ensures.text ∙ same) c.in_ok-closing.ensures.lines in
    record {
      at_closing = at;
      first = ap part_in (sym k.1) ∙ k.2;
      packed = c.in_ok-packed.ensures.cases.1 ∙ ap (drop 5) k.1;
      record_lines = say_moved _ _ _ _ _ _ same place c.lines_with-record.ensures.say;
      states = c.lines_with-record.ensures.lines ∙ moved (λ (t : List ℕ) (p : ℕ). between t p at) _ _ _ _ same place;
      closes = close.0;
      closing_lines = close.1;
      closing = close.2;
    }
