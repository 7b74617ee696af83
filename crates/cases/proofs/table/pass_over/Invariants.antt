-- The text stays.
use Rattle.std.proofs.Common.{◌≡◌}
use Rattle.cases.proofs.table.pass_over.Given as goal

abbrev pub invariant-loop : goal.invariant-loop
invariant-loop l = l.reader.text ≡ l.initial.reader.text
