-- The lines so far say this, and the text stays.
use Rattle.std.proofs.Common.{◌≡◌}
use Rattle.cases.specs.Blocks.{AllSay}
use Rattle.cases.proofs.table.lines_with.Given as goal

abbrev pub invariant-loop : goal.invariant-loop
invariant-loop l = (l.reader.text ≡ l.initial.reader.text) × AllSay l.initial.reader.text.now l.part l.start l.reader.place
