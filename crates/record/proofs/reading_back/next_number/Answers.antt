-- Without a `=` there is no number, and past one there is a line.
use Rattle.std.proofs.Common.{ℕ, List, length, drop, ap, arith, rules}
use Rattle.std.specs.Borrow.{Bor}
use Rattle.record.proofs.PassingLines.{no_key, piece_left}
use Rattle.record.proofs.reading_back.next_number.Goals as goal

pub returns-in_err-key : goal.returns-in_err-key
returns-in_err-key c =
    let s = c.args.reader.now in
    let e = no_key (drop s.place s.text.now) c.in_err-key.ensures.cases.0 in
    search rules

pub returns-in_err-word : goal.returns-in_err-word
returns-in_err-word c =
    let r = c.key.new.self in
    let same = ap (λ (s : Bor (List ℕ)). length s.now) c.key.ensures.text in
    absurd (piece_left 10 r.text.now r.place (omega (arith, same, c.in_ok-key.ensures.cases.3)) c.in_err-word.ensures.cases.0)
