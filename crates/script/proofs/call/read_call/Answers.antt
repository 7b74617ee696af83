-- A line whose first word is not `sheet`.
use Rattle.std.proofs.Common.{ℕ, List, sym, ap, ◌∙◌, Bor}
use Rattle.text.specs.Cut.{pieces_from}
use Rattle.script.specs.Words.{plain_in}
use Rattle.script.proofs.CallsWithoutPath.{reads_plain}
use Rattle.script.proofs.call.read_call.Goals as goal

pub returns-else-same : goal.returns-else-same
returns-else-same c =
    let s = c.new-words.result in
    let w = c.in_ok-word.word.now in
    let q = c.word.new.self.place in
    reads_plain c.args.line s.text w s.place q c.plain_left.result c.new-words.ensures.text c.new-words.ensures.place c.in_ok-word.ensures.cases.1
    (sym c.same.ensures ∙ c.if-same.false)
    (c.plain_left.ensures ∙ ap (λ (t : Bor (List ℕ)). plain_in w (pieces_from 32 t.now q)) c.word.ensures.text)
