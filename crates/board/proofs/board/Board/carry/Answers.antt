-- The duty is added once to the list for the next state.
use Rattle.board.specs.Work.{work_of}
use Rattle.board.proofs.Answering.{told_carry}
use Rattle.board.proofs.board.Board.carry.Goals as goal

pub returns : goal.returns
returns c = told_carry c.args.duty (work_of c.args.self.now) _ c.add_once.result c.add_once.ensures.answer c.add_once.ensures.items
