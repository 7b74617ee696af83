-- What an answer tells: its published number with its values, or that the call did what it was asked. Assumes nothing.
use Rattle.std.specs.Prelude.{ℕ, Bool, true, false, List, [], ◌∷◌, ℤ, Ok, Err, Result, ◌==◌}
use Rattle.meaning.specs.declared.duties.Stop.{Stop}
use Rattle.meaning.specs.declared.duties.Stop.TheVariants.{Contradiction, Undetermined, Crowded}
use Rattle.meaning.specs.Runs.{open_number}
use Rattle.load.specs.RefusalText.{published_refusal as refusal_told}
use Rattle.calls.specs.declared.answers.Denial.{Denial}
use Rattle.calls.specs.declared.answers.Denial.TheVariants.{RunIsOpen, NoRunIsOpen, WrongStates, OtherRecorder, NoSuchState, NoSuchVariable}
use Rattle.calls.specs.declared.answers.Ending.{Ending}
use Rattle.calls.specs.declared.answers.Ending.TheVariants.{Finished, Abandoned, Stopped}
use Rattle.calls.specs.declared.answers.NotAdvanced.{NotAdvanced}
use Rattle.calls.specs.declared.answers.NotAdvanced.TheVariants.{Denied, Full}
use Rattle.calls.specs.declared.answers.NotLoaded.{NotLoaded}
use Rattle.calls.specs.declared.answers.NotLoaded.TheVariants.{Refused}
use Rattle.calls.specs.declared.answers.Progress.{Progress}
use Rattle.calls.specs.declared.answers.Report.{Report}

-- a value that goes with an answer
pub data Value : Type 0 where
  -- how many states the recorder has
  count : ℕ → Value
  -- the state, the statement, or the variable (99 for a span's end) that is meant
  state : ℕ → Value
  statement : ℕ → Value
  variable : ℕ → Value
  -- the line and the word of the text that are meant, or 0
  line : ℕ → Value
  word : ℕ → Value

-- what an answer tells
pub data PublishedAnswer : Type 0 where
  -- the call did what it was asked
  done : PublishedAnswer
  -- the number that was looked up
  found : ℤ → PublishedAnswer
  -- how the engine stands, where it met no stop
  is_idle : PublishedAnswer
  is_open : List Value → PublishedAnswer
  is_finished : List Value → PublishedAnswer
  is_abandoned : PublishedAnswer
  -- the published number of a denial, a refusal or a stop, with its values
  numbered : ℕ → List Value → PublishedAnswer

-- an answer of one of the calls
pub data CallAnswer : Type 0 where
  to_load : Result (Unit {0}) NotLoaded → CallAnswer
  to_begin : Result (Unit {0}) Denial → CallAnswer
  to_advance : Result Progress NotAdvanced → CallAnswer
  to_abandon : Result (Unit {0}) Denial → CallAnswer
  to_report : Report → CallAnswer
  to_look : Result ℤ Denial → CallAnswer

-- the numbers of denials
abbrev pub denial_number : Denial → ℕ
denial_number RunIsOpen = 20
denial_number NoRunIsOpen = 21
denial_number WrongStates = 22
denial_number NoSuchState = 23
denial_number NoSuchVariable = 24
denial_number OtherRecorder = 25

-- the number of a text that is not loaded: that of its refusal, or of the denial while a run is open
abbrev pub text_number : NotLoaded → ℕ
text_number NotLoaded.RunIsOpen = denial_number RunIsOpen
text_number (Refused r) = (refusal_told r).number

-- the line that is meant, or 0
abbrev pub text_line : NotLoaded → ℕ
text_line NotLoaded.RunIsOpen = 0
text_line (Refused r) = (refusal_told r).line

-- the word that is meant, or 0
abbrev pub text_word : NotLoaded → ℕ
text_word NotLoaded.RunIsOpen = 0
text_word (Refused r) = (refusal_told r).word

-- the numbers of stops
abbrev pub stop_number : Stop → ℕ
stop_number (Contradiction p) = 31
stop_number (Undetermined x) = 32
stop_number Crowded = 33

-- what a stop says besides its state
abbrev pub stop_values : Stop → List Value
stop_values (Contradiction p) = statement p ∷ []
stop_values (Undetermined x) = variable (open_number x) ∷ []
stop_values Crowded = []

-- the number of an advance that has not recorded all its states
abbrev pub advance_number : NotAdvanced → ℕ
advance_number (Denied d) = denial_number d
advance_number (Full k) = 34
advance_number (NotAdvanced.Stopped c) = stop_number c.stop

-- a denial has no values
abbrev pub published_denial : Denial → PublishedAnswer
published_denial d = numbered (denial_number d) []

-- a text that is not loaded
abbrev pub published_not_loaded : NotLoaded → PublishedAnswer
published_not_loaded x = numbered (text_number x) (line (text_line x) ∷ word (text_word x) ∷ [])

-- a stop at state k
abbrev pub published_stop : ℕ → Stop → PublishedAnswer
published_stop k s = numbered (stop_number s) (state k ∷ stop_values s)

-- an advance that has not recorded all its states: no room is told with the state that has none
abbrev pub published_advance : NotAdvanced → PublishedAnswer
published_advance (Denied d) = published_denial d
published_advance (Full k) = numbered (advance_number (Full k)) (state k ∷ [])
published_advance (NotAdvanced.Stopped c) = published_stop c.state c.stop

-- how a run has ended
abbrev pub published_ending : Ending → PublishedAnswer
published_ending Finished = is_finished []
published_ending Abandoned = is_abandoned
published_ending (Stopped c) = published_stop c.state c.stop

-- what each answer tells
abbrev pub published : CallAnswer → PublishedAnswer
published (to_load (Ok u)) = done
published (to_load (Err x)) = published_not_loaded x
published (to_begin (Ok u)) = done
published (to_begin (Err d)) = published_denial d
published (to_advance (Ok (Progress.Open n))) = is_open (count n ∷ [])
published (to_advance (Ok (Progress.Finished n))) = is_finished (count n ∷ [])
published (to_advance (Err x)) = published_advance x
published (to_abandon (Ok u)) = done
published (to_abandon (Err d)) = published_denial d
published (to_report Report.Idle) = is_idle
published (to_report (Report.Open n)) = is_open (count n ∷ [])
published (to_report (Report.Ended e)) = published_ending e
published (to_look (Ok z)) = found z
published (to_look (Err d)) = published_denial d

-- whether an answer says that the run has finished
abbrev pub says_finished : PublishedAnswer → Bool
says_finished done = false
says_finished (found z) = false
says_finished is_idle = false
says_finished (is_open vs) = false
says_finished (is_finished vs) = true
says_finished is_abandoned = false
says_finished (numbered n vs) = false

-- whether an answer says stop 31, a contradiction
abbrev pub says_contradiction : PublishedAnswer → Bool
says_contradiction done = false
says_contradiction (found z) = false
says_contradiction is_idle = false
says_contradiction (is_open vs) = false
says_contradiction (is_finished vs) = false
says_contradiction is_abandoned = false
says_contradiction (numbered n vs) = n == 31
