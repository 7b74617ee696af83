-- Behind the empty lines an example stands, or the table ends.
use Rattle.std.proofs.Common.{List, ℕ, ◌≤◌, length, Bor, subst}
use Rattle.cases.specs.declared.part.Part.TheVariants.{End}
use Rattle.cases.specs.Blocks.{AllSay, StandsAt}
use Rattle.cases.proofs.table.next_example.Goals as goal

pub returns-then-reader-clause-over : goal.returns-then-reader-clause-over
returns-then-reader-clause-over c =
    λ e. (c.lines_with.ensures.say, subst (λ (t : Bor (List ℕ)). length t.now ≤ c.lines_with.new.reader.place) c.lines_with.ensures.text c.if-reader.true)

pub returns-in-Some-clause-stands : goal.returns-in-Some-clause-stands
returns-in-Some-clause-stands c =
    let p = c.lines_with.new.reader.place in
    let block = subst (λ (t : Bor (List ℕ)). (q : ℕ) × StandsAt t.now c.in-Some.example p q × AllSay t.now End q c.read_block.new.reader.place) c.lines_with.ensures.text c.in-Some.ensures.stands in
    (p, block.0, c.lines_with.ensures.say, block.1, block.2)
