-- The number, the line and the word are written in this order, with a space between two.
use Rattle.std.proofs.Common.{◌≡◌, ◌∷◌, ◌++◌, decimal, append_assoc}
use Rattle.load.specs.RefusalText.{PublishedRefusal, published_refusal, refusal_text}
use Rattle.load.proofs.refusal_text.RefusalDisplay.fmt.Goals as goal

told_text : (t : PublishedRefusal) → refusal_text t ≡ decimal t.number ++ (32 ∷ (decimal t.line ++ (32 ∷ decimal t.word)))
told_text t = append_assoc (decimal t.number) (32 ∷ decimal t.line) (32 ∷ decimal t.word)

pub returns-clause-writes : goal.returns-clause-writes
returns-clause-writes g c =
    rw (told_text (published_refusal c.args.self.now), ← c.number-number.ensures, ← c.line-line.ensures, ← c.word-word.ensures) c.write.ensures.writes
