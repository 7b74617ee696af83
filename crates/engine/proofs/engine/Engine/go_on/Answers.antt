-- The last state that is settled, or none, ends what is left.
use Rattle.std.proofs.Common.{◌≡◌, ℕ, suc, Bool, true, [], ◌∷◌, Ok, Err, sym, subst, rules}
use Rattle.meaning.specs.Intervals.{under}
use Rattle.board.specs.Work.{work_of}
use Rattle.load.specs.declared.loading.Loader.{Loader}
use Rattle.calls.specs.Calls.{Settled}
use Rattle.calls.specs.Standing.{Recording, recording}
use Rattle.calls.specs.Published.{PublishedAnswer, published, to_advance, is_finished, count}
use Rattle.engine.specs.Meant.{meant, standing_by}
use Rattle.engine.specs.Advancing.{OneMore}
use Rattle.engine.proofs.OneMoreState.{all_of, none_left}
use Rattle.engine.proofs.engine.Engine.go_on.Goals as goal
use Rattle.sheet.specs.ContentOf.{content_of}

pub returns-in_err-record_state-clause-settled : goal.returns-in_err-record_state-clause-settled
returns-in_err-record_state-clause-settled g c =
    let R = g.R.Recorder in
    let f = g.F.Feed.readings c.args.feed.now in
    let q : Recording = recording R.states R.state_width R.room_left c.loop-i.recorder in
    let p : Recording = recording R.states R.state_width R.room_left c.args.recorder.now in
    let r : Recording = recording R.states R.state_width R.room_left c.record_state.new.recorder in
    let v = c.loop-i.self.settler.board in
    let s = (meant c.record_state.new.self).standing in
    let x = c.in_err-record_state.field-0.0 in
    let a : PublishedAnswer = published (to_advance c.from_residual.result) in
    let same : a ≡ published (to_advance (Err x)) = search rules in
    let there = subst (λ (z : Loader). OneMore (under (content_of z.sheet) f) q (work_of v) (Err x) s r) c.loop-i.invariant.4 c.in_err-record_state.ensures.one in
    all_of (under (content_of c.args.self.now.loader.sheet) f) c.args.states c.loop-i._i q p r (work_of v) (work_of c.args.self.now.settler.board) a s c.loop-i-test.true c.loop-i.invariant.0
    (λ m. subst (λ (b : PublishedAnswer). Settled (under (content_of c.args.self.now.loader.sheet) f) (suc m) q (work_of v) b s r) (sym same) (there m))

pub returns-then-branch-clause-settled : goal.returns-then-branch-clause-settled
returns-then-branch-clause-settled g c =
    let R = g.R.Recorder in
    let f = g.F.Feed.readings c.args.feed.now in
    let q : Recording = recording R.states R.state_width R.room_left c.loop-i.recorder in
    let p : Recording = recording R.states R.state_width R.room_left c.args.recorder.now in
    let r : Recording = recording R.states R.state_width R.room_left c.record_state.new.recorder in
    let v = c.loop-i.self.settler.board in
    let s = (meant c.record_state.new.self).standing in
    let one = subst (λ (b : Bool). OneMore (under (content_of c.loop-i.self.loader.sheet) f) q (work_of v) (Ok b) s r) c.if-branch.true c.in_ok-record_state.ensures.one in
    let there = subst (λ (z : Loader). OneMore (under (content_of z.sheet) f) q (work_of v) (Ok true) s r) c.loop-i.invariant.4 one in
    let a : PublishedAnswer = is_finished (count c.count.result ∷ []) in
    all_of (under (content_of c.args.self.now.loader.sheet) f) c.args.states c.loop-i._i q p r (work_of v) (work_of c.args.self.now.settler.board) a s c.loop-i-test.true c.loop-i.invariant.0
    (λ m. subst (λ (k : ℕ). Settled (under (content_of c.args.self.now.loader.sheet) f) (suc m) q (work_of v) (is_finished (count k ∷ [])) s r) (sym c.count.ensures) (there m))

pub returns-clause-settled : goal.returns-clause-settled
returns-clause-settled g c =
    let R = g.R.Recorder in
    let e = c.loop-i.self in
    none_left (under (content_of c.args.self.now.loader.sheet) (g.F.Feed.readings c.args.feed.now)) c.args.states c.loop-i._i c.count-2.result (recording R.states R.state_width R.room_left c.loop-i.recorder) (recording R.states R.state_width R.room_left c.args.recorder.now)
    (work_of e.settler.board) (work_of c.args.self.now.settler.board) (standing_by e.condition e.settler) c.loop-i-test.false c.count-2.ensures (search rules) c.loop-i.invariant.0
