-- A duty of the list has a span that lives.
use Rattle.std.proofs.Common.{sym, subst}
use Rattle.meaning.specs.Intervals.{Setting}
use Rattle.meaning.specs.WellFormed.{WellFormed}
use Rattle.meaning.specs.Rules.{visit}
use Rattle.meaning.proofs.Lists.{nth_in}
use Rattle.board.specs.Work.{work_of}
use Rattle.settling.specs.Passing.{setting_of}
use Rattle.settling.proofs.VisitsKeepOrder.{limits_of, told_ok, visit_later, visit_well_formed}
use Rattle.settling.proofs.InVain.{duty_vain}
use Rattle.settling.proofs.duties.PassVisitorDuty.visit.Goals as goal

pub visit_duty-requires-clause-present : goal.visit_duty-requires-clause-present
visit_duty-requires-clause-present g c = c.requires.well_formed.2.duty_present c.args.item (nth_in (work_of c.args.board.now).duties c.requires.there.0 c.args.item c.requires.there.1)

pub visit_duty-requires-clause-fitted : goal.visit_duty-requires-clause-fitted
visit_duty-requires-clause-fitted g c = λ f. (subst (λ S. WellFormed S (work_of c.args.board.now)) c.requires.well_formed.1 c.requires.well_formed.2).fitted

pub returns-clause-leaves : goal.returns-clause-leaves
returns-clause-leaves g c =
    let p = c.args.self.now in
    let R = setting_of g.F.Feed.readings p in
    let w = work_of c.args.board.now in
    let u = work_of c.visit_duty.new.board in
    told_ok c.visit_duty.result u (visit R p.state c.args.item w) _ c.visit_duty.ensures.visited
    (λ b e. record {
      well_formed = λ S m. subst (λ (z : Setting). WellFormed z w → WellFormed z u) (sym m) (λ t. visit_well_formed R (limits_of p.sheet.now) p.state c.requires.there.0 c.args.item w u b t c.requires.there.1 e);
      later = visit_later R p.state c.args.item w u b e;
    })

pub returns-clause-vain : goal.returns-clause-vain
returns-clause-vain g c =
    let p = c.args.self.now in
    let w = work_of c.args.board.now in
    let u = work_of c.visit_duty.new.board in
    let t = subst (λ S. WellFormed S w) c.requires.well_formed.1 c.requires.well_formed.2 in
    duty_vain (setting_of g.F.Feed.readings p) p.state c.requires.there.0 c.args.item w u c.visit_duty.result t c.requires.there.1 c.visit_duty.ensures.visited c.visit_duty.ensures.done
