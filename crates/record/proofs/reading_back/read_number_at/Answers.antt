-- Each turn passes a line, and the number is then that of the next one.
use Rattle.std.proofs.Common.{◌≡◌, List, ℕ, drop, ℤ, pos, Option, unwrap_or, w64, FitsSigned, sym, ap, ◌∙◌, arith, rules}
use Rattle.std.proofs.lemmas.Int.{to_z-of_z}
use Rattle.record.specs.ReadingBack.{past, next_number}
use Rattle.std.specs.Borrow.{Bor}
use Rattle.text.specs.Cut.{after}
use Rattle.record.proofs.PassingLines.{line_passed, past_none, past_more}
use Rattle.record.proofs.reading_back.read_number_at.Goals as goal

pub loop-init : goal.loop-init
loop-init c =
    let r = c.new-reader.ensures in
    let t = c.args.text.now in
    (ap (λ (s : Bor (List ℕ)). s.now) r.text, ap (λ (p : ℕ). drop p t) r.place ∙ past_none t)

pub loop-preserved : goal.loop-preserved
loop-preserved c =
    let r = c.loop.reader in
    let l = c.loop.invariant in
    let q = c.line.new.self.place in
    let passed = line_passed r.text r.place q c.line.result c.line.ensures.cases in (
      ap (λ (s : Bor (List ℕ)). s.now) c.line.ensures.text ∙ l.0,
      ap (drop q) (sym l.0) ∙ passed ∙ ap (λ (t : List ℕ). after 10 (drop r.place t)) l.0 ∙ ap (after 10) l.1 ∙ past_more c.loop.counter c.args.text.now,
    )

pub returns : goal.returns
returns c =
    let r = c.loop.reader in
    let l = c.loop.invariant in
    let t = c.args.text.now in
    let all : c.loop.counter ≡ c.args.lines = omega arith in
    let rest : drop r.place r.text.now ≡ past c.args.lines t = ap (drop r.place) l.0 ∙ l.1 ∙ ap (λ (n : ℕ). past n t) all in
    let z : FitsSigned w64 c.unwrap_or.result = search rules in
    to_z-of_z w64 c.unwrap_or.result z ∙ c.unwrap_or.ensures ∙ ap (λ (o : Option ℤ). unwrap_or o (pos 0)) (c.next_number.ensures ∙ ap next_number rest)
