-- A row that has the serial is the one that the search would find.
use Rattle.std.proofs.Common.{vec_items}
use Rattle.board.proofs.Rows.{found_hint}
use Rattle.board.proofs.board.Board.place_of.Goals as goal

pub returns-in-Some : goal.returns-in-Some
returns-in-Some c =
    let b = c.args.self.now in
    let found = c.in-Some.ensures.lookup in
    found_hint (vec_items b.rows) _ b.next _ c.args.serial _ b.ordered c.deref.ensures.value found.0 found.1 c.if-row-serial.true
