-- The states that are left to settle from here are those that were left at the start; the run is open, and the recorder is its own.
use Rattle.std.proofs.Common.{◌≡◌, ◌-◌, length, vec_len}
use Rattle.meaning.specs.Intervals.{under}
use Rattle.board.specs.Work.{work_of}
use Rattle.calls.specs.declared.answers.Condition.TheVariants.{Open}
use Rattle.calls.specs.Calls.{Settled}
use Rattle.calls.specs.Standing.{Standing, Recording, recording}
use Rattle.calls.specs.Published.{PublishedAnswer}
use Rattle.engine.specs.Advancing.{WritesOn}
use Rattle.engine.proofs.engine.Engine.go_on.Given as goal
use Rattle.sheet.specs.ContentOf.{content_of}

abbrev pub invariant-loop-i : goal.invariant-loop-i
invariant-loop-i g l =
    let R = g.R.Recorder in
    let S = under (content_of l.initial.self.loader.sheet) (g.F.Feed.readings l.feed) in
    ((a : PublishedAnswer) (t : Standing) (r : Recording) → Settled S (l.states - l._i) (recording R.states R.state_width R.room_left l.recorder) (work_of l.self.settler.board) a t r
    → Settled S l.states (recording R.states R.state_width R.room_left l.initial.recorder) (work_of l.initial.self.settler.board) a t r)
    × (l.self.condition ≡ Open)
    × (R.state_width l.recorder ≡ vec_len l.self.loader.sheet.tables.variables)
    × (length (R.states l.recorder) ≡ l.self.settler.state)
    × (l.self.loader ≡ l.initial.self.loader)
    × WritesOn R.capacity R.memory_name R.written_length R.memory_at l.initial.recorder l.recorder
