-- What is read word by word is what the words spell.
use Rattle.std.proofs.Common.{ℕ, List, ap, ◌∙◌, sym, arith}
use Rattle.std.specs.Borrow.{Bor}
use Rattle.text.specs.Cut.{pieces_from, parted}
use Rattle.text.proofs.CutsFit.{left_in}
use Rattle.script.specs.Words.{reading_in}
use Rattle.script.proofs.WordByWord.{reading_is, reading_read}
use Rattle.script.proofs.reading.read_reading.Goals as goal

pub returns : goal.returns
returns c =
    let r = c.new.result in
    let l = c.args.words.now in
    let all = ap (λ (s : Bor (List ℕ)). pieces_from 32 s.now r.place) c.new.ensures.text ∙ ap (pieces_from 32 l) c.new.ensures.place ∙ left_in 32 l 0 (omega arith) in
    let read = c.reading_left.ensures ∙ ap reading_in all in
    λ r. (λ e. reading_is (parted 32 l) r (sym read ∙ e), λ (p, s). read ∙ reading_read (parted 32 l) r p s)
