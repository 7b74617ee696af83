-- The statement is that of the arm.
use Rattle.std.proofs.Common.{◌≡◌, ℕ, ℤ, Option, not, IfOk, refl, sym, ap, ◌∙◌, subst}
use Rattle.value.specs.declared.end.End.{End}
use Rattle.value.specs.declared.end.End.TheVariants.{Last}
use Rattle.sheet.specs.declared.elements.Statement.{Statement}
use Rattle.sheet.specs.declared.elements.Statement.TheVariants.{Empty}
use Rattle.meaning.specs.Work.{Work, Outcome}
use Rattle.meaning.specs.Effects.{put}
use Rattle.board.specs.Outcomes.{outcome_of}
use Rattle.board.specs.Work.{work_of}
use Rattle.rules.specs.declared.visit.Visit.{Visit}
use Rattle.rules.specs.Visits.{ruled, awaits}
use Rattle.rules.proofs.visit.Visit.rule_of.Goals as goal

-- where the statement s is u, and the rule of t was followed, t is to be u
by_rule : {F : Type 0} (f : F → ℕ → ℕ → Option ℤ) (v : Visit F) (s t u : Statement) (w : Work) (o : Outcome) → o ≡ ruled f v t w → s ≡ u → t ≡ u → o ≡ ruled f v s w
by_rule f v s t u w o e q h = e ∙ ap (λ (z : Statement). ruled f v z w) (h ∙ sym q)

-- where the statement is `empty`, the end that is put is to be the last
by_last : {F : Type 0} (f : F → ℕ → ℕ → Option ℤ) (v : Visit F) (s : Statement) (x : End) (w : Work) (o : Outcome) → o ≡ put v.duty.statement x v.duty.span w → s ≡ Empty → x ≡ Last → o ≡ ruled f v s w
by_last f v s x w o e q h = e ∙ ap (λ (z : End). put v.duty.statement z v.duty.span w) h ∙ ap (λ (z : Statement). ruled f v z w) (sym q)

pub returns-in-Empty : goal.returns-in-Empty
returns-in-Empty g c =
    let v = c.args.self.now in
    let w = work_of c.args.board.now in
    record {
      visited = by_last g.F.Feed.readings v c.args.statement _ w _ (ap (λ r. outcome_of r (work_of c.put.new.self)) c.done-in-Empty.ensures.visited ∙ c.put.ensures) c.in-Empty.is refl;
      done = subst (λ (z : Statement). IfOk c.done-in-Empty.result (λ x. x.done ≡ not (awaits g.F.Feed.readings v z w))) (sym c.in-Empty.is) c.done-in-Empty.ensures.done;
    }

pub returns-in-And : goal.returns-in-And
returns-in-And g c =
    let v = c.args.self.now in
    let w = work_of c.args.board.now in
    record {
      visited = by_rule g.F.Feed.readings v c.args.statement _ _ w _ (ap (λ r. outcome_of r (work_of c.and_rule.new.board)) c.done-in-And.ensures.visited ∙ c.and_rule.ensures) c.in-And.is refl;
      done = subst (λ (z : Statement). IfOk c.done-in-And.result (λ x. x.done ≡ not (awaits g.F.Feed.readings v z w))) (sym c.in-And.is) c.done-in-And.ensures.done;
    }
