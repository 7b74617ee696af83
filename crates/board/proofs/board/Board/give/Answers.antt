-- A number that is new is written, and is in its variable's range.
use Rattle.std.proofs.Common.{◌≡◌, ap, ◌∙◌, to_z, of_z, w64, sym, arith, rules}
use Rattle.meaning.specs.Intervals.{under}
use Rattle.value.specs.Values.{equal_numbers}
use Rattle.board.specs.Work.{store}
use Rattle.board.proofs.Answering.{equal_itself, gives_held}
use Rattle.board.proofs.Searching.{gives_new}
use Rattle.board.proofs.board.Board.give.Goals as goal
use Rattle.sheet.specs.ContentOf.{content_of}

pub returns-in-None : goal.returns-in-None
returns-in-None c f =
    let s = c.args.sheet.now in
    let number : to_z w64 (of_z w64 c.args.number) ≡ c.args.number = search rules in
    gives_new (under (content_of s) f) (store c.args.self.now) c.args.place c.args.variable _ _ _ c.args.number _ number c.from-x.ensures (omega arith) c.in-None.is
    c.index.ensures (omega arith) s.tables.variables.ok.0 (sym c.in_range.ensures ∙ c.if-in_range.true)

pub returns-in-Some : goal.returns-in-Some
returns-in-Some c f =
    let same : c.in-Some.held ≡ c.args.number = search rules in
    gives_held (under (content_of c.args.sheet.now) f) (store c.args.self.now) c.args.place c.args.variable c.from-x.result c.in-Some.held c.args.number c.from-x.ensures c.in-Some.is (ap (equal_numbers c.in-Some.held) (sym same) ∙ equal_itself c.in-Some.held)
