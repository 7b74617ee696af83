-- Where no row has the serial, nothing is known of the end.
use Rattle.std.proofs.Common.{vec_items, sym}
use Rattle.board.proofs.Rows.{unknown_end}
use Rattle.board.proofs.board.Board.end_of.Goals as goal

pub returns-in-None : goal.returns-in-None
returns-in-None c = unknown_end (vec_items c.args.self.now.rows) c.args.serial (sym c.in-None.ensures)
