-- A list that is full has no room for a duty that it lacks.
use Rattle.std.proofs.Common.{vec_items, arith}
use Rattle.board.proofs.Answering.{crowded}
use Rattle.board.proofs.duties.DutyList.add_new.Goals as goal

pub returns-then-len-ge-MOST_DUTIES-clause-answer : goal.returns-then-len-ge-MOST_DUTIES-clause-answer
returns-then-len-ge-MOST_DUTIES-clause-answer c =
    let v = c.args.self.now.list in
    crowded c.args.duty (vec_items v) c.requires.absent (omega (arith, v.ok.0))
