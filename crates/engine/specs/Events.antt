-- What may happen to an engine, and in which condition. Assumes nothing.
use Rattle.std.specs.Prelude.{ℕ, Bool, ◌&&◌, if◌then◌else◌, Ok, Err, Result, nat_le}
use Rattle.calls.specs.declared.answers.Condition.{Condition}
use Rattle.calls.specs.declared.answers.Condition.TheVariants.{Idle, Open, Ended}
use Rattle.calls.specs.declared.answers.Denial.{Denial}
use Rattle.calls.specs.declared.answers.Denial.TheVariants.{RunIsOpen, NoRunIsOpen, WrongStates, OtherRecorder}
use Rattle.calls.specs.declared.answers.Ending.TheVariants.{Abandoned}
use Rattle.engine.specs.declared.events.Event.{Event}
use Rattle.engine.specs.declared.events.Event.TheVariants.{Load, Begin, Advance, Abandon}

-- an advance of an open run by n states, where the recorder is the run's or not
abbrev pub admitted_advance : ℕ → Bool → Result (Unit {0}) Denial
admitted_advance n own = if nat_le 1 n && nat_le n 1000 then if own then Ok tt else Err OtherRecorder else Err WrongStates

-- what an event meets in an open run
abbrev pub admitted_open : Event → Result (Unit {0}) Denial
admitted_open Load = Err RunIsOpen
admitted_open Begin = Err RunIsOpen
admitted_open (Advance n own) = admitted_advance n own
admitted_open Abandon = Ok tt

-- and where no run is open
abbrev pub admitted_closed : Event → Result (Unit {0}) Denial
admitted_closed Load = Ok tt
admitted_closed Begin = Ok tt
admitted_closed (Advance n own) = Err NoRunIsOpen
admitted_closed Abandon = Err NoRunIsOpen

-- whether an event is allowed in a condition, or its denial
abbrev pub admitted : Condition → Event → Result (Unit {0}) Denial
admitted Idle e = admitted_closed e
admitted Open e = admitted_open e
admitted (Ended x) e = admitted_closed e

-- an open run after an event that is looked at: to abandon ends it
abbrev pub after_event_open : Event → Condition
after_event_open Load = Open
after_event_open Begin = Open
after_event_open (Advance n own) = Open
after_event_open Abandon = Ended Abandoned

-- the condition after an event that is looked at; only to abandon turns it
abbrev pub after_event : Condition → Event → Condition
after_event Idle e = Idle
after_event Open e = after_event_open e
after_event (Ended x) e = Ended x
