-- The row that a search finds has the end.
use Rattle.std.proofs.Common.{vec_items, vec_len}
use Rattle.board.proofs.Rows.{end_at}
use Rattle.board.proofs.board.Board.end_at.Goals as goal

pub returns : goal.returns
returns c s p =
    let b = c.args.self.now in
    end_at (vec_items b.rows) c.args.row (vec_len b.rows) s b.next _ c.index.ensures c.requires b.rows.ok.0 b.ordered p
