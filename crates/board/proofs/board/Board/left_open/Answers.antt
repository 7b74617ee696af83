-- The first variable without a number decides; then the ends do.
use Rattle.std.proofs.Common.{Some, None, sym, ◌∙◌, arith}
use Rattle.std.proofs.lemmas.Bool.{cond-true, cond-false}
use Rattle.meaning.specs.Runs.{all_ended}
use Rattle.board.specs.Work.{work_of}
use Rattle.board.proofs.LeftOpen.{lowest_found}
use Rattle.board.proofs.board.Board.left_open.Goals as goal

pub returns-in-Some : goal.returns-in-Some
returns-in-Some c = lowest_found c.args.self.now.values c.args.width _ (Some c.in-Some.x) (omega arith) (sym c.in-Some.is ∙ c.lowest_unknown.ensures)

pub returns-in-None : goal.returns-in-None
returns-in-None c =
    let w = work_of c.args.self.now in
    sym (cond-true (all_ended w.ends w.spans) _ _ (sym c.all_ended.ensures ∙ c.if-all_ended.true))
    ∙ lowest_found c.args.self.now.values c.args.width _ None (omega arith) (sym c.in-None.is ∙ c.lowest_unknown.ensures)

pub returns-in-None-2 : goal.returns-in-None-2
returns-in-None-2 c =
    let w = work_of c.args.self.now in
    sym (cond-false (all_ended w.ends w.spans) _ _ (sym c.all_ended.ensures ∙ c.if-all_ended.false))
    ∙ lowest_found c.args.self.now.values c.args.width _ None (omega arith) (sym c.in-None.is ∙ c.lowest_unknown.ensures)
