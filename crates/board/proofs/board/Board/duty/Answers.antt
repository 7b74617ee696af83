-- The list of this state is asked.
use Rattle.board.proofs.board.Board.duty.Goals as goal

pub returns : goal.returns
returns c = c.get.ensures
