-- The sheet has the statement, and it keeps its rules; where it has none, `true` stands in.
use Rattle.std.proofs.Common.{◌≡◌, vec_items, vec_len, not, IfOk, unwrap_or, sym, ap, ◌∙◌, subst}
use Rattle.std.proofs.lemmas.Option.{get_or_from_slice_get, unwrap_or-slice_get}
use Rattle.sheet.specs.declared.elements.Statement.{Statement}
use Rattle.sheet.specs.declared.elements.Statement.TheVariants.{True}
use Rattle.meaning.specs.Intervals.{under}
use Rattle.meaning.specs.Rules.{rule}
use Rattle.meaning.specs.Waiting.{rule_waits}
use Rattle.board.specs.Outcomes.{outcome_of}
use Rattle.board.specs.Work.{work_of}
use Rattle.rules.proofs.StatementRules.{proper_as}
use Rattle.rules.proofs.visiting.visit_duty.Goals as goal
use Rattle.sheet.specs.ContentOf.{content_of}

pub returns : goal.returns
returns g c =
    let s = c.args.sheet.now in
    let S = under (content_of s) (g.F.Feed.readings c.args.feed.now) in
    let d = c.args.duty in
    let w = work_of c.args.board.now in
    let e = sym (get_or_from_slice_get (vec_items s.tables.statements) d.statement c.in-Some.statement True (sym c.statement_of.ensures ∙ c.in-Some.is)) in
    record {
      visited = c.rule_of.ensures.visited ∙ ap (λ (z : Statement). rule S c.args.state z d.number d w) e;
      done = subst (λ (z : Statement). IfOk c.rule_of.result (λ v. v.done ≡ not (rule_waits S z d.number d w))) e c.rule_of.ensures.done;
    }

pub returns-in_default : goal.returns-in_default
returns-in_default g c =
    let s = c.args.sheet.now in
    let S = under (content_of s) (g.F.Feed.readings c.args.feed.now) in
    let d = c.args.duty in
    let w = work_of c.args.board.now in
    let e = ap (λ o. unwrap_or o True) (sym c.in_default.is ∙ c.statement_of.ensures) ∙ unwrap_or-slice_get (vec_items s.tables.statements) d.statement True in
    record {
      visited = ap (λ r. outcome_of r w) c.done.ensures.visited ∙ ap (λ (z : Statement). rule S c.args.state z d.number d w) e;
      done = subst (λ (z : Statement). IfOk c.done.result (λ v. v.done ≡ not (rule_waits S z d.number d w))) e c.done.ensures.done;
    }

pub rule_of-requires : goal.rule_of-requires
rule_of-requires g c =
    let s = c.args.sheet.now in
    record {
      proper = proper_as (vec_len s.tables.variables) (vec_len s.tables.expressions) (vec_items s.tables.variables) (vec_items s.tables.expressions) (vec_items s.tables.statements) c.args.duty.statement c.in-Some.statement s.order s.tables.variables.ok.0 s.tables.expressions.ok.0 (sym c.statement_of.ensures ∙ c.in-Some.is);
      ready = record { present = c.requires.present; fitted = c.requires.fitted };
    }
