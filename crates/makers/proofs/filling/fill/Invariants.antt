-- What is recorded, with what is filled from the rest, is what is filled from all; and no place beyond the reach has changed.
use Rattle.std.proofs.Common.{◌≡◌, ◌+◌, ◌++◌, length}
use Rattle.record.specs.Owned.{LeavesOwner}
use Rattle.makers.specs.Carried.{filled}
use Rattle.makers.proofs.filling.fill.Given as goal

abbrev pub invariant-loop-state : goal.invariant-loop-state
invariant-loop-state g l =
    let R = g.R.Recorder in
    (R.states l.recorder ++ filled (R.room_left l.recorder) l.width l.state-iterator.rest.now ≡ filled (R.room_left l.initial.recorder) l.width l.numbers)
    × (l.state-iterator.size ≡ l.width)
    × (R.state_width l.recorder ≡ l.width)
    × (R.room_left l.recorder + length (R.states l.recorder) ≡ R.room_left l.initial.recorder)
    × LeavesOwner R.capacity R.memory_name R.written_length R.memory_at l.initial.recorder l.recorder
