-- From state to state: what each one starts with, what it comes to, and the record of a run. Assumes nothing.
use Rattle.std.specs.Prelude.{◌≡◌, ℕ, zero, suc, Bool, true, false, if◌then◌else◌, ◌&&◌, List, [], ◌∷◌, ◌++◌, map, length, ℤ, pos, Some, None, Option}
use Rattle.std.specs.List.{range_with_len}
use Rattle.std.specs.Option.{unwrap_or}
use Rattle.value.specs.declared.end.End.{End}
use Rattle.value.specs.declared.end.End.TheVariants.{Unknown, On, Last}
use Rattle.meaning.specs.declared.duties.Duty.{Duty}
use Rattle.meaning.specs.declared.duties.LeftOpen.{LeftOpen}
use Rattle.meaning.specs.declared.duties.LeftOpen.TheVariants.{Variable}
use Rattle.meaning.specs.declared.duties.Span.{Span}
use Rattle.meaning.specs.declared.duties.Stop.{Stop}
use Rattle.meaning.specs.declared.duties.Stop.TheVariants.{Undetermined}
use Rattle.meaning.specs.Intervals.{Setting, width}
use Rattle.meaning.specs.Work.{Work, Outcome, stops, goes, plain}
use Rattle.meaning.specs.Visiting.{Visiting, in_passes, SettlesBy}

-- what is known at the start of a state: no variable's number, and no span's end
abbrev pub begun : List Span → List Duty → ℕ → Work
begun spans duties next = record { known = λ x. None; ends = λ s. Unknown; spans = spans; duties = duties; later = []; next = next }

-- the whole interval, as a span
abbrev pub whole_span : Span
whole_span = record { serial = 0; opening = None; fresh = false }

-- state 0 starts with the statement that is run, owed by the whole interval
abbrev pub first_work : ℕ → Work
first_work p = begun (whole_span ∷ []) (plain p 0 ∷ []) 1

-- a span that goes on is kept, and is no longer fresh; no end is unknown where a state is recorded
abbrev pub kept_by : End → Span → List Span → List Span
kept_by Unknown t l = l
kept_by On t l = record { serial = t.serial; opening = t.opening; fresh = false } ∷ l
kept_by Last t l = l

-- the spans that go on; those that are last are dropped
abbrev pub going_on : (ℕ → End) → List Span → List Span
going_on ends [] = []
going_on ends (t ∷ l) = kept_by (ends t.serial) t (going_on ends l)

-- the next state starts with the spans that go on and with the duties that were carried
abbrev pub next_work : Work → Work
next_work w = begun (going_on w.ends w.spans) w.later w.next

-- the lowest unknown variable of the n from x on, or else o
abbrev pub lowest_by : Option ℤ → ℕ → Option LeftOpen → Option LeftOpen
lowest_by None x o = Some (Variable x)
lowest_by (Some v) x o = o

abbrev pub lowest_unknown : (ℕ → Option ℤ) → ℕ → ℕ → Option LeftOpen → Option LeftOpen
lowest_unknown known x zero o = o
lowest_unknown known x (suc n) o = lowest_by (known x) x (lowest_unknown known (suc x) n o)

-- whether an end is known
abbrev pub is_ended : End → Bool
is_ended Unknown = false
is_ended On = true
is_ended Last = true

-- whether all ends of spans are known
abbrev pub all_ended : (ℕ → End) → List Span → Bool
all_ended ends [] = true
all_ended ends (t ∷ l) = is_ended (ends t.serial) && all_ended ends l

-- what a work with n variables leaves open: its lowest unknown variable, or the end of a span where only such are unknown, or nothing
abbrev pub left_open : ℕ → Work → Option LeftOpen
left_open n w = lowest_unknown w.known 0 n (if all_ended w.ends w.spans then None else Some LeftOpen.End)

-- the number that is told of what is left open: that of the variable, or 99, which no variable has
abbrev pub open_number : LeftOpen → ℕ
open_number (Variable x) = x
open_number LeftOpen.End = 99

-- the state that a work with n variables has settled
abbrev pub state_of : ℕ → Work → List ℤ
state_of n w = map (λ x. unwrap_or (w.known x) (pos 0)) (range_with_len 0 n)

-- what a state comes to
pub data Step : Type 0 where
  -- a stop: the state is not recorded
  stopped : Stop → Step
  -- the state is recorded, and the next one starts with this work
  recorded : List ℤ → Work → Step
  -- the state is recorded, and is the last: the run has finished
  finished : List ℤ → Step

-- a state of n variables that leaves nothing open, by the end of the whole interval, which is then known
abbrev pub closed_by : End → ℕ → Work → Step
closed_by Unknown n w = stopped (Undetermined LeftOpen.End)
closed_by On n w = recorded (state_of n w) (next_work w)
closed_by Last n w = finished (state_of n w)

-- a settled state of n variables, by what it leaves open
abbrev pub judged_by : Option LeftOpen → ℕ → Work → Step
judged_by None n w = closed_by (w.ends 0) n w
judged_by (Some x) n w = stopped (Undetermined x)

-- what an outcome of settling comes to, with n variables
abbrev pub step_of : ℕ → Outcome → Step
step_of n (stops s) = stopped s
step_of n (goes w c) = judged_by (left_open n w) n w

-- state k, started with the work w and visited in this way, comes to this
pub record StepsBy (i : Visiting) (S : Setting) (k : ℕ) (w : Work) (s : Step) : Type 0 where
  pub outcome : Outcome
  pub settles : SettlesBy i S k w outcome
  pub comes : step_of (width S) outcome ≡ s

-- a run that goes on, its states visited in this way: its record so far, and the work that its next state starts with
pub data OngoingBy (i : Visiting) (S : Setting) : List (List ℤ) → Work → Type 0 where
  -- nothing is recorded
  start : OngoingBy i S [] (first_work S.sheet.run)
  -- one state more is
  onward : {r : List (List ℤ)} {w u : Work} {x : List ℤ} → OngoingBy i S r w → StepsBy i S (length r) w (recorded x u) → OngoingBy i S (r ++ x ∷ []) u

-- a run that has finished, with its record
pub data FinishedBy (i : Visiting) (S : Setting) : List (List ℤ) → Type 0 where
  finish : {r : List (List ℤ)} {w : Work} {x : List ℤ} → OngoingBy i S r w → StepsBy i S (length r) w (finished x) → FinishedBy i S (r ++ x ∷ [])

-- a run that has met a stop, with its record; the stop is at the state after the record
pub data MetStopBy (i : Visiting) (S : Setting) : List (List ℤ) → Stop → Type 0 where
  stop : {r : List (List ℤ)} {w : Work} {s : Stop} → OngoingBy i S r w → StepsBy i S (length r) w (stopped s) → MetStopBy i S r s

-- a list of states is the record of a run, at some moment of it
pub data RecordBy (i : Visiting) (S : Setting) (r : List (List ℤ)) : Type 0 where
  open_record : (w : Work) → OngoingBy i S r w → RecordBy i S r
  finished_record : FinishedBy i S r → RecordBy i S r

-- the same of the runs of an engine, which visits in passes
abbrev pub Steps : Setting → ℕ → Work → Step → Type 0
Steps S k w s = StepsBy in_passes S k w s

abbrev pub Ongoing : Setting → List (List ℤ) → Work → Type 0
Ongoing S r w = OngoingBy in_passes S r w

abbrev pub Finished : Setting → List (List ℤ) → Type 0
Finished S r = FinishedBy in_passes S r

abbrev pub MetStop : Setting → List (List ℤ) → Stop → Type 0
MetStop S r s = MetStopBy in_passes S r s

abbrev pub Record : Setting → List (List ℤ) → Type 0
Record S r = RecordBy in_passes S r
