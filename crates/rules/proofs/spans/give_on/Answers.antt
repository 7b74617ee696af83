-- What is known of the span's own end stays.
use Rattle.std.proofs.Common.{sym, ap, ◌∙◌}
use Rattle.meaning.specs.Effects.{put, add}
use Rattle.value.specs.declared.end.End.TheVariants.{On}
use Rattle.meaning.specs.Runs.{is_ended}
use Rattle.board.specs.Work.{work_of}
use Rattle.rules.proofs.KnownEnds.{put_ended, add_ended, done_ended}
use Rattle.rules.proofs.spans.give_on.Goals as goal

pub returns-in-On-clause-done : goal.returns-in-On-clause-done
returns-in-On-clause-done c =
    let g = c.args.opening in
    let w = work_of c.args.board.now in
    let o = g.follower.span in
    done_ended c.done.result c.put.result c.args.serial (work_of c.put.new.self) (put g.by On o w) c.done.ensures.visited c.put.ensures c.done.ensures.done
    (put_ended g.by c.args.serial o (w.ends o) w (ap is_ended (sym c.end_of.ensures ∙ c.in-On.is)))

pub returns-in-Last-clause-done : goal.returns-in-Last-clause-done
returns-in-Last-clause-done c =
    let g = c.args.opening in
    let w = work_of c.args.board.now in
    done_ended c.done-in-Last.result c.add.result c.args.serial (work_of c.add.new.self) (add g.follower w) c.done-in-Last.ensures.visited c.add.ensures c.done-in-Last.ensures.done
    (add_ended g.follower c.args.serial w (ap is_ended (sym c.end_of.ensures ∙ c.in-Last.is)))
