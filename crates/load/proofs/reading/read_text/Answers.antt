-- What comes of a text whose last byte ends a line hangs on its first line.
use Rattle.std.proofs.Common.{◌≡◌, ℕ, List, length, Bool, Err, sym, ap, ◌∙◌, subst, cond, Bor}
use Rattle.std.specs.Option.{MatchOption}
use Rattle.std.specs.List.{IsLastAndRest}
use Rattle.text.specs.Cut.{pieces_from, Handed}
use Rattle.sheet.specs.PartialSheet.{no_lines}
use Rattle.load.specs.declared.refusals.Refusal.{Refusal}
use Rattle.load.specs.Parsing.{parse_lines}
use Rattle.load.specs.Loading.{Drafted}
use Rattle.lines.proofs.KeyAndWords.{taken_out}
use Rattle.load.proofs.FirstLine.{from_first}
use Rattle.load.proofs.reading.read_text.Goals as goal

pub returns-then-not-same : goal.returns-then-not-same
returns-then-not-same c =
    let s = c.args.text.now in
    let t = c.new-reader.result in
    let q = c.line.new.self.place in
    let last = taken_out (λ o. MatchOption o (length s ≡ 0) (λ p. IsLastAndRest s p.0.now p.1.now)) c.split_last.result (c.in_ok-end.end, c.in_ok-end.lines) Refusal.Length c.in_ok-end.ensures.value c.split_last.ensures.cases in
    let first = taken_out (λ o. Handed 10 t.text t.place q o) c.line.result c.in_ok-first.first Refusal.Header c.in_ok-first.ensures.value c.line.ensures.cases in
    from_first c.args.text c.in_ok-end.lines t.text c.in_ok-end.end.now c.in_ok-first.first.now t.place q last.0 c.if-end-ne10.false c.if-text-gt-LONGEST_TEXT.false c.new-reader.ensures.text c.new-reader.ensures.place first.1
    ∙ ap (λ (b : Bool). cond b (parse_lines 2 no_lines (pieces_from 10 t.text.now q)) (Err Refusal.Header)) (sym c.same.ensures ∙ c.if-not-same.true)

pub returns : goal.returns
returns c =
    let s = c.args.text.now in
    let t = c.new-reader.result in
    let q = c.line.new.self.place in
    let last = taken_out (λ o. MatchOption o (length s ≡ 0) (λ p. IsLastAndRest s p.0.now p.1.now)) c.split_last.result (c.in_ok-end.end, c.in_ok-end.lines) Refusal.Length c.in_ok-end.ensures.value c.split_last.ensures.cases in
    let first = taken_out (λ o. Handed 10 t.text t.place q o) c.line.result c.in_ok-first.first Refusal.Header c.in_ok-first.ensures.value c.line.ensures.cases in
    let read = from_first c.args.text c.in_ok-end.lines t.text c.in_ok-end.end.now c.in_ok-first.first.now t.place q last.0 c.if-end-ne10.false c.if-text-gt-LONGEST_TEXT.false c.new-reader.ensures.text c.new-reader.ensures.place first.1
    ∙ ap (λ (b : Bool). cond b (parse_lines 2 no_lines (pieces_from 10 t.text.now q)) (Err Refusal.Header)) (sym c.same.ensures ∙ c.if-not-same.false)
    ∙ ap (λ (r : Bor (List ℕ)). parse_lines 2 no_lines (pieces_from 10 r.now q)) (sym c.line.ensures.text) in
    subst (Drafted c.read_lines.result c.read_lines.new.draft) (sym read) c.read_lines.ensures
