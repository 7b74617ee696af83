-- The numbers that are known are in their ranges.
use Rattle.std.proofs.Common.{◌≡◌, ℕ, true, vec_len, take, IfOk, ap, ◌∙◌, subst}
use Rattle.meaning.specs.Intervals.{under, width}
use Rattle.meaning.specs.Runs.{next_work, state_of}
use Rattle.board.specs.Work.{work_of}
use Rattle.settling.proofs.VisitsKeepOrder.{limits_of}
use Rattle.record.specs.Rules.{all_small}
use Rattle.settling.proofs.StateEnds.{numbers_small, answer_small}
use Rattle.settling.proofs.stepping.settle_state.Goals as goal
use Rattle.sheet.specs.ContentOf.{content_of}

pub returns-clause-fitting : goal.returns-clause-fitting
returns-clause-fitting g c =
    let s = c.args.sheet.now in
    let S = under (content_of s) (g.F.Feed.readings c.args.feed.now) in
    let w = work_of c.settle.new.board in
    let n : vec_len s.tables.variables ≡ width S = s.tables.variables.ok.0 in
    subst (λ (z : ℕ). IfOk c.judged.result (λ x. all_small (take z x.numbers) ≡ true)) c.len.ensures
    (answer_small c.len.result c.judged.result (next_work w) w c.judged.ensures (ap (λ (z : ℕ). all_small (state_of z w)) (c.len.ensures ∙ n) ∙ numbers_small S (limits_of s) w c.in_ok-settle.ensures.well_formed.fitted))
