-- The visits to the duties are the visits to one list, with fuel for all of it.
use Rattle.std.proofs.Common.{ℕ, sym, ap, ◌∙◌}
use Rattle.meaning.specs.Passes.{visit_duties}
use Rattle.board.specs.Work.{work_of}
use Rattle.settling.specs.Passing.{setting_of}
use Rattle.settling.proofs.TwoLists.{fuel_is, duties_as}
use Rattle.settling.proofs.pass.Pass.visit_duties.Goals as goal

pub returns-clause-visited : goal.returns-clause-visited
returns-clause-visited g c =
    let p = c.args.self.now in
    let S = setting_of g.F.Feed.readings p in
    let w = work_of c.args.board.now in
    c.visit_all.ensures.visited ∙ sym (ap (λ (n : ℕ). visit_duties S p.state n 0 w) fuel_is ∙ duties_as S p.state 513 0 w)
