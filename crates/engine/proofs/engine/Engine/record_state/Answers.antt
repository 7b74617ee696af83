-- What comes of one state more, by the answer of the step.
use Rattle.std.proofs.Common.{ℕ, suc, ◌<◌, add-one, length, take, Ok, vec_len, ap, sym, ◌∙◌, subst, arith, rules}
use Rattle.sheet.specs.declared.kept.Sheet.{Sheet}
use Rattle.meaning.specs.Intervals.{under}
use Rattle.meaning.specs.Runs.{stopped, Steps}
use Rattle.meaning.proofs.Lists.{longer}
use Rattle.board.specs.Work.{work_of}
use Rattle.calls.specs.Standing.{Recording, recording, with_state}
use Rattle.engine.specs.Advancing.{OneMore}
use Rattle.engine.specs.Meant.{standing_by}
use Rattle.engine.proofs.OneMoreState.{full, stops_here, goes_on_open, one_more_state}
use Rattle.engine.proofs.engine.Engine.record_state.Goals as goal
use Rattle.sheet.specs.ContentOf.{content_of}

pub returns-then-room-eq0-clause-one : goal.returns-then-room-eq0-clause-one
returns-then-room-eq0-clause-one g c =
    let R = g.R.Recorder in
    let e = c.args.self.now in
    full _ (recording R.states R.state_width R.room_left c.args.recorder.now) (work_of e.settler.board) c.state-state.result (standing_by e.condition e.settler) (c.requires.counted ∙ sym c.state-state.ensures) (sym c.room.ensures.answer ∙ c.if-room-eq0.true) (search rules)

pub returns-in-Ok-clause-one : goal.returns-in-Ok-clause-one
returns-in-Ok-clause-one g c =
    let R = g.R.Recorder in
    let e = c.args.self.now in
    let f = g.F.Feed.readings c.args.feed.now in
    let q : Recording = recording R.states R.state_width R.room_left c.args.recorder.now in
    let p : Recording = recording R.states R.state_width R.room_left c.take_state.new.recorder in
    let h = c.sheet-sheet.result.now in
    let x = c.in-Ok.settled in
    let room : 0 < q.room = omega (arith, c.room.ensures.answer, c.if-room-eq0.false) in
    let one = one_more_state (under (content_of h) f) q p (work_of e.settler.board) e.settler.state (vec_len h.tables.variables) x c.following-self.result c.step.new.self c.requires.counted room c.in-Ok.ensures.steps (c.take_state.ensures.recorded ∙ ap (λ (z : ℕ). with_state (take z x.numbers) q) c.len.ensures) c.following-self.ensures in
    subst (λ (z : Sheet). OneMore (under (content_of z) f) q (work_of e.settler.board) (Ok x.last) (standing_by c.following-self.result c.step.new.self) p) c.sheet-sheet.ensures one

pub returns-in-Err-clause-one : goal.returns-in-Err-clause-one
returns-in-Err-clause-one g c =
    let R = g.R.Recorder in
    let e = c.args.self.now in
    let f = g.F.Feed.readings c.args.feed.now in
    let q : Recording = recording R.states R.state_width R.room_left c.args.recorder.now in
    let w = work_of e.settler.board in
    let room : 0 < q.room = omega (arith, c.room.ensures.answer, c.if-room-eq0.false) in
    let at = subst (λ (z : Sheet). Steps (under (content_of z) f) e.settler.state w (stopped c.in-Err.stop)) c.sheet-sheet.ensures c.in-Err.ensures.steps in
    stops_here (under (content_of e.loader.sheet) f) q w c.state-state.result c.in-Err.stop (c.requires.counted ∙ sym c.state-state.ensures) room
    (subst (λ (k : ℕ). Steps (under (content_of e.loader.sheet) f) k w (stopped c.in-Err.stop)) (sym c.state-state.ensures) at)

pub returns-in-Err-clause-stopped : goal.returns-in-Err-clause-stopped
returns-in-Err-clause-stopped g c = λ d e. cc

pub returns-in-Ok-clause-counted : goal.returns-in-Ok-clause-counted
returns-in-Ok-clause-counted g c =
    let q = g.R.Recorder.states c.args.recorder.now in
    let x = take c.len.result c.in-Ok.settled.numbers in
    λ e. ap (λ (z : Recording). length z.states) c.take_state.ensures.recorded ∙ longer q x ∙ ap suc c.requires.counted ∙ sym (c.in-Ok.ensures.counted ∙ add-one c.args.self.now.settler.state)

pub returns-in-Ok-clause-owner : goal.returns-in-Ok-clause-owner
returns-in-Ok-clause-owner g c = c.take_state.ensures.owner

pub returns-in-Ok-clause-wide : goal.returns-in-Ok-clause-wide
returns-in-Ok-clause-wide g c = ap (λ (q : Recording). q.width) c.take_state.ensures.recorded

pub returns-in-Ok-clause-open : goal.returns-in-Ok-clause-open
returns-in-Ok-clause-open g c = goes_on_open c.in-Ok.settled.last c.following-self.result c.following-self.ensures
