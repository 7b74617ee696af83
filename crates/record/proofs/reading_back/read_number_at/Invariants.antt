-- What is left is the text past the lines so far.
use Rattle.std.proofs.Common.{◌≡◌, drop}
use Rattle.record.specs.ReadingBack.{past}
use Rattle.record.proofs.reading_back.read_number_at.Given as goal

abbrev pub invariant-loop : goal.invariant-loop
invariant-loop l = (l.reader.text.now ≡ l.text) × (drop l.reader.place l.text ≡ past l.counter l.text)
