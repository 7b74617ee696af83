-- To add its part changes no end.
use Rattle.std.proofs.Common.{sym, ap, ◌∙◌}
use Rattle.std.proofs.lemmas.Result.{err_from_is_err_and}
use Rattle.meaning.specs.Work.{plain}
use Rattle.board.specs.Outcomes.{outcome_of}
use Rattle.board.specs.Work.{work_of}
use Rattle.rules.proofs.KnownEnds.{told_on, known_end}
use Rattle.rules.proofs.visit.Visit.always_rule.Goals as goal

pub returns-in_err-changed-clause-visited : goal.returns-in_err-changed-clause-visited
returns-in_err-changed-clause-visited g c =
    let d = c.args.self.now.duty in
    let v = work_of c.carry_if_on.new.board in
    let p = err_from_is_err_and c.from_residual-in_err-changed.result c.from_residual-in_err-changed.ensures.1 in
    rw (p.1, p.2) (ap (λ r. outcome_of r v) (sym c.in_err-changed.was ∙ c.afterwards.ensures)
    ∙ told_on c.plain.result (plain c.args.p d.span) d c.end_of-end.result (work_of c.args.board.now) (work_of c.add.new.self) v c.in_ok-add.field-0 c.carry_if_on.result c.plain.ensures c.end_of-end.ensures c.in_ok-add.ensures c.carry_if_on.ensures)

pub returns-clause-visited : goal.returns-clause-visited
returns-clause-visited g c =
    let d = c.args.self.now.duty in
    let v = work_of c.carry_if_on.new.board in
    ap (λ r. outcome_of r v) (sym c.in_ok-changed.was ∙ c.afterwards.ensures)
    ∙ told_on c.plain.result (plain c.args.p d.span) d c.end_of-end.result (work_of c.args.board.now) (work_of c.add.new.self) v c.in_ok-add.field-0 c.carry_if_on.result c.plain.ensures c.end_of-end.ensures c.in_ok-add.ensures c.carry_if_on.ensures

pub returns-clause-done : goal.returns-clause-done
returns-clause-done g c = known_end _ _ _ c.end_of-end.ensures cc
