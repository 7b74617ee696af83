-- What each call does: from what engine and recorder mean before it, to its answer and what they mean after it. Assumes nothing.
use Rattle.std.specs.Prelude.{◌≡◌, ℕ, zero, suc, ◌+◌, ◌<◌, ◌&&◌, if◌then◌else◌, List, [], ◌∷◌, length, ℤ, Some, None, Ok, Err, Option, Result, ◌==◌, nat_le}
use Rattle.std.specs.List.{slice_get}
use Rattle.sheet.specs.Content.{Content}
use Rattle.load.specs.declared.refusals.Refusal.{Refusal}
use Rattle.load.specs.Parsing.{parse_sheet}
use Rattle.meaning.specs.declared.duties.Stop.{Stop}
use Rattle.meaning.specs.Intervals.{Setting, under}
use Rattle.meaning.specs.Work.{Work}
use Rattle.meaning.specs.Visiting.{Visiting, in_passes}
use Rattle.meaning.specs.Runs.{first_work, StepsBy, stopped, recorded, finished as finishes}
use Rattle.calls.specs.declared.answers.Denial.{Denial}
use Rattle.calls.specs.declared.answers.Denial.TheVariants.{RunIsOpen, NoRunIsOpen, WrongStates, OtherRecorder, NoSuchState, NoSuchVariable}
use Rattle.calls.specs.declared.answers.Ending.TheVariants.{Finished, Abandoned, Stopped}
use Rattle.calls.specs.declared.answers.NotAdvanced.TheVariants.{Full}
use Rattle.calls.specs.declared.answers.NotLoaded.TheVariants.{RunIsOpen as RunOpen, Refused}
use Rattle.calls.specs.declared.answers.Report.{Report}
use Rattle.calls.specs.Standing.{Standing, idle, running, ended, Meant, with_standing, Recording, blank, with_state}
use Rattle.calls.specs.Published.{PublishedAnswer, done, found, is_open, is_finished, count, published_denial, published_not_loaded, published_advance, published_stop}

-- a load of a text of which this comes, where no run is open: the sheet is held and the engine is idle, or nothing has changed
abbrev pub LoadsBy : Result Content Refusal → Meant → PublishedAnswer → Meant → Type 0
LoadsBy (Ok c) e a d = (a ≡ done) × (d ≡ record { sheet = c; standing = idle })
LoadsBy (Err r) e a d = (a ≡ published_not_loaded (Refused r)) × (d ≡ e)

-- a load of this text: denied while a run is open
abbrev pub LoadsIn : Standing → List ℕ → Meant → PublishedAnswer → Meant → Type 0
LoadsIn idle text e a d = LoadsBy (parse_sheet text) e a d
LoadsIn (running k w) text e a d = (a ≡ published_not_loaded RunOpen) × (d ≡ e)
LoadsIn (ended x) text e a d = LoadsBy (parse_sheet text) e a d

-- what a load of this text does, by how the engine stands
abbrev pub Loads : List ℕ → Meant → PublishedAnswer → Meant → Type 0
Loads text e a d = LoadsIn e.standing text e a d

-- a run is opened: the recorder is started with the number of the sheet's variables, and its room is its capacity for them
abbrev pub Opens : (ℕ → ℕ) → Meant → PublishedAnswer → Meant → Recording → Type 0
Opens capacity e a d p =
    (a ≡ done) × (d ≡ with_standing (running 0 (first_work e.sheet.run)) e) × (p ≡ blank (length e.sheet.variables) (capacity (length e.sheet.variables)))

-- a begin, with a recorder of this capacity for each width: denied while a run is open
abbrev pub BeginsIn : Standing → (ℕ → ℕ) → Meant → Recording → PublishedAnswer → Meant → Recording → Type 0
BeginsIn idle capacity e q a d p = Opens capacity e a d p
BeginsIn (running k w) capacity e q a d p = (a ≡ published_denial RunIsOpen) × (d ≡ e) × (p ≡ q)
BeginsIn (ended x) capacity e q a d p = Opens capacity e a d p

-- what a begin does, by how the engine stands
abbrev pub Begins : (ℕ → ℕ) → Meant → Recording → PublishedAnswer → Meant → Recording → Type 0
Begins capacity e q a d p = BeginsIn e.standing capacity e q a d p

-- up to so many states more, each visited in this way, from the work w and the recorder q of an open run: what is answered, how the engine stands then, and the recorder
pub data SettledBy (i : Visiting) (S : Setting) : ℕ → Recording → Work → PublishedAnswer → Standing → Recording → Type 0 where
  -- no more states are asked for: the run goes on
  all_asked : {q : Recording} {w : Work} → SettledBy i S zero q w (is_open (count (length q.states) ∷ [])) (running (length q.states) w) q
  -- there is no room: the run goes on
  no_room : {n : ℕ} {q : Recording} {w : Work} → q.room ≡ 0 → SettledBy i S (suc n) q w (published_advance (Full (length q.states))) (running (length q.states) w) q
  -- the next state meets a stop: it is not recorded, and the run has ended
  met_stop : {n : ℕ} {q : Recording} {w : Work} {s : Stop} → 0 < q.room → StepsBy i S (length q.states) w (stopped s)
      → SettledBy i S (suc n) q w (published_stop (length q.states) s) (ended (Stopped (record { stop = s; state = length q.states }))) q
  -- the next state is recorded, and is the last: the run has finished
  last_state : {n : ℕ} {q : Recording} {w : Work} {x : List ℤ} → 0 < q.room → StepsBy i S (length q.states) w (finishes x)
      → SettledBy i S (suc n) q w (is_finished (count (length q.states + 1) ∷ [])) (ended Finished) (with_state x q)
  -- the next state is recorded, and then the others
  one_more : {n : ℕ} {q p : Recording} {w u : Work} {x : List ℤ} {a : PublishedAnswer} {s : Standing} → 0 < q.room → StepsBy i S (length q.states) w (recorded x u)
      → SettledBy i S n (with_state x q) u a s p → SettledBy i S (suc n) q w a s p

-- the same of an engine, which visits in passes
abbrev pub Settled : Setting → ℕ → Recording → Work → PublishedAnswer → Standing → Recording → Type 0
Settled S n q w a s p = SettledBy in_passes S n q w a s p

-- why an open run with k states is not advanced by n states with the recorder q, if so
abbrev pub not_advanced : ℕ → ℕ → Meant → Recording → Option Denial
not_advanced n k e q =
    if nat_le 1 n && nat_le n 1000
    then if q.width == length e.sheet.variables && length q.states == k then None else Some OtherRecorder
    else Some WrongStates

-- an advance of an open run, with the work w at hand: denied, or the states are settled under the readings f
abbrev pub AdvancesBy : Option Denial → (ℕ → ℕ → Option ℤ) → ℕ → Work → Meant → Recording → PublishedAnswer → Meant → Recording → Type 0
AdvancesBy (Some x) f n w e q a d p = (a ≡ published_denial x) × (d ≡ e) × (p ≡ q)
AdvancesBy None f n w e q a d p = Settled (under e.sheet f) n q w a d.standing p × (d.sheet ≡ e.sheet)

-- an advance by n states: denied where no run is open
abbrev pub AdvancesIn : Standing → (ℕ → ℕ → Option ℤ) → ℕ → Meant → Recording → PublishedAnswer → Meant → Recording → Type 0
AdvancesIn idle f n e q a d p = (a ≡ published_denial NoRunIsOpen) × (d ≡ e) × (p ≡ q)
AdvancesIn (running k w) f n e q a d p = AdvancesBy (not_advanced n k e q) f n w e q a d p
AdvancesIn (ended x) f n e q a d p = (a ≡ published_denial NoRunIsOpen) × (d ≡ e) × (p ≡ q)

-- what an advance by n states does under the readings f, by how the engine stands
abbrev pub Advances : (ℕ → ℕ → Option ℤ) → ℕ → Meant → Recording → PublishedAnswer → Meant → Recording → Type 0
Advances f n e q a d p = AdvancesIn e.standing f n e q a d p

-- an abandon: denied where no run is open
abbrev pub AbandonsIn : Standing → Meant → PublishedAnswer → Meant → Type 0
AbandonsIn idle e a d = (a ≡ published_denial NoRunIsOpen) × (d ≡ e)
AbandonsIn (running k w) e a d = (a ≡ done) × (d ≡ with_standing (ended Abandoned) e)
AbandonsIn (ended x) e a d = (a ≡ published_denial NoRunIsOpen) × (d ≡ e)

-- what an abandon does, by how the engine stands
abbrev pub Abandons : Meant → PublishedAnswer → Meant → Type 0
Abandons e a d = AbandonsIn e.standing e a d

-- what a report answers of an engine that stands so
abbrev pub report_of : Standing → Report
report_of idle = Report.Idle
report_of (running k w) = Report.Open k
report_of (ended x) = Report.Ended x

-- what a look tells of a number, if there is one
abbrev pub found_number : Option ℤ → PublishedAnswer
found_number None = published_denial NoSuchVariable
found_number (Some z) = found z

-- what a look finds in a state, if there is one
abbrev pub look_in_state : Option (List ℤ) → ℕ → PublishedAnswer
look_in_state None x = published_denial NoSuchState
look_in_state (Some s) x = found_number (slice_get s x)

-- what a look at variable x of state k tells
abbrev pub look_of : Recording → ℕ → ℕ → PublishedAnswer
look_of q k x = look_in_state (slice_get q.states k) x
