-- A span that runs has a row.
use Rattle.std.proofs.Common.{vec_items, sym, ◌∙◌}
use Rattle.board.specs.Work.{work_of}
use Rattle.board.proofs.Answering.{put_last}
use Rattle.board.proofs.Rows.{unplaced}
use Rattle.board.proofs.board.Board.put.Goals as goal

pub returns-in_default : goal.returns-in_default
returns-in_default c = absurd (unplaced (vec_items c.args.self.now.rows) c.args.serial (sym c.in_default.ensures) c.requires)

pub returns-in_default-2-3 : goal.returns-in_default-2-3
returns-in_default-2-3 c =
    let w = work_of c.args.self.now in
    put_last c.args.place (w.ends c.args.serial) c.args.end c.args.serial w (sym (c.end_at.ensures c.args.serial (sym c.place_of.ensures ∙ c.in-Some.is)) ∙ c.in_default-2.is-0) c.in_default-2.not-On-1
