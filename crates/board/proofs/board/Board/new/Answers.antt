-- The tables are empty.
use Rattle.board.proofs.NextState.{new_means}
use Rattle.board.proofs.board.Board.new.Goals as goal

pub returns : goal.returns
returns c = new_means _ _ _ c.in_ok-rows.ensures.items c.in_ok-duties.ensures c.in_ok-carried.ensures
