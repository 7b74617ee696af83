-- Sheets tried by hand: the text of each, and what comes of a run of it without readings. Assumes nothing.
-- The records and the endings were worked out by hand, and not computed by the definitions that they are held to.
use Rattle.std.specs.Prelude.{◌≡◌, ℕ, List, [], ◌∷◌, ℤ, pos, None, Ok, codes, Option}
use Rattle.std.specs.List.{flat_map}
use Rattle.sheet.specs.Content.{Content}
use Rattle.sheet.specs.SheetText.{with_line_end}
use Rattle.load.specs.Parsing.{parse_sheet}
use Rattle.meaning.specs.declared.duties.Stop.{Stop}
use Rattle.meaning.specs.declared.duties.LeftOpen.TheVariants.{Variable}
use Rattle.meaning.specs.declared.duties.Stop.TheVariants.{Contradiction, Undetermined}
use Rattle.meaning.specs.Intervals.{Setting, under}
use Rattle.meaning.specs.Runs.{Finished, MetStop}

-- how a run ends
pub data TrialEnding : Type 0 where
  -- it finishes with the last state of its record
  finishes : TrialEnding
  -- it meets this stop, at the state after its record
  meets : Stop → TrialEnding

-- a text, and what comes of a run of it
pub record Trial : Type 0 where
  -- the lines of the text, each without its line end
  pub lines : List (List ℕ)
  -- the states that the run records, each with the numbers of the variables in order
  pub states : List (List ℤ)
  -- how the run ends
  pub ending : TrialEnding

-- the text of some lines: each is ended by the byte 10
abbrev pub trial_text : List (List ℕ) → List ℕ
trial_text lines = flat_map with_line_end lines

-- the silent feed: no variable has a reading at any state
abbrev pub silence : ℕ → ℕ → Option ℤ
silence variable state = None

-- a run in this setting ends so, and these are the states of its record
abbrev pub RunEnds : Setting → List (List ℤ) → TrialEnding → Type 0
RunEnds S states finishes = Finished S states
RunEnds S states (meets s) = MetStop S states s

-- what a trial says: its text is accepted as some sheet, and a run of that sheet without readings ends so, with these states
pub record ComesTrue (t : Trial) : Type 0 where
  pub sheet : Content
  pub accepted : parse_sheet (trial_text t.lines) ≡ Ok sheet
  pub ends : RunEnds (under sheet silence) t.states t.ending

-- a sheet in which i starts at 0 and grows by 1 up to 3, with this line for i
abbrev pub counter : List ℕ → List (List ℕ)
counter variable =
    codes "sheet=2"
    ∷ variable
    ∷ codes "expr=num 0"
    ∷ codes "expr=val i"
    ∷ codes "expr=num 1"
    ∷ codes "expr=add 1 2"
    ∷ codes "expr=num 3"
    ∷ codes "expr=eq 1 4"
    ∷ codes "stmt=is i 0"
    ∷ codes "stmt=gets i 3"
    ∷ codes "stmt=halt 5"
    ∷ codes "stmt=and 0 1"
    ∷ codes "stmt=and 3 2"
    ∷ codes "run=4"
    ∷ []

-- i counts from 0 to 3, and there the run finishes
unfoldable pub counted : Trial
counted = record {
  lines = counter (codes "var=i 0 9");
  states = (pos 0 ∷ []) ∷ (pos 1 ∷ []) ∷ (pos 2 ∷ []) ∷ (pos 3 ∷ []) ∷ [];
  ending = finishes;
}

-- i may not be 3: the value that `gets` carried contradicts the range, at state 3
unfoldable pub out_of_range : Trial
out_of_range = record {
  lines = counter (codes "var=i 0 2");
  states = (pos 0 ∷ []) ∷ (pos 1 ∷ []) ∷ (pos 2 ∷ []) ∷ [];
  ending = meets (Contradiction 1);
}

-- `true` says nothing of a: its number is open, though its range has only one
unfoldable pub unsaid : Trial
unsaid = record { lines = codes "sheet=2" ∷ codes "var=a 0 0" ∷ codes "stmt=true" ∷ codes "run=0" ∷ []; states = []; ending = meets (Undetermined (Variable 0)) }

-- `empty` and `more` contradict each other, at the second of them
unfoldable pub both_ends : Trial
both_ends = record {
  lines =
      codes "sheet=2"
      ∷ codes "var=a 0 0"
      ∷ codes "expr=num 0"
      ∷ codes "stmt=empty"
      ∷ codes "stmt=more"
      ∷ codes "stmt=and 0 1"
      ∷ codes "stmt=is a 0"
      ∷ codes "stmt=always 3"
      ∷ codes "stmt=and 2 4"
      ∷ codes "run=5"
      ∷ [];
  states = [];
  ending = meets (Contradiction 1);
}

-- no piece has a length below 0
unfoldable pub negative_length : Trial
negative_length = record {
  lines =
      codes "sheet=2"
      ∷ codes "var=a 0 0"
      ∷ codes "expr=num 0"
      ∷ codes "expr=num -1"
      ∷ codes "stmt=len 1"
      ∷ codes "stmt=is a 0"
      ∷ codes "stmt=always 1"
      ∷ codes "stmt=and 0 2"
      ∷ codes "run=3"
      ∷ [];
  states = [];
  ending = meets (Contradiction 0);
}

-- fewer than 0 rounds are none: the interval is empty, though a round would need `more`
unfoldable pub negative_rounds : Trial
negative_rounds = record {
  lines =
      codes "sheet=2"
      ∷ codes "var=a 0 0"
      ∷ codes "expr=num 0"
      ∷ codes "expr=num -1"
      ∷ codes "stmt=more"
      ∷ codes "stmt=for 1 0"
      ∷ codes "stmt=is a 0"
      ∷ codes "stmt=always 2"
      ∷ codes "stmt=and 1 3"
      ∷ codes "run=4"
      ∷ [];
  states = (pos 0 ∷ []) ∷ [];
  ending = finishes;
}

-- a round of a `while` has more than one state, so that its body must not be `empty`
unfoldable pub empty_round : Trial
empty_round = record {
  lines =
      codes "sheet=2"
      ∷ codes "var=a 0 0"
      ∷ codes "expr=num 0"
      ∷ codes "expr=num 1"
      ∷ codes "stmt=empty"
      ∷ codes "stmt=while 1 0"
      ∷ codes "stmt=is a 0"
      ∷ codes "stmt=always 2"
      ∷ codes "stmt=and 1 3"
      ∷ codes "run=4"
      ∷ [];
  states = [];
  ending = meets (Contradiction 0);
}

-- the two parts of a `chop` share a state: lengths 2 and 1 make 3, which is four states
unfoldable pub shared_state : Trial
shared_state = record {
  lines =
      codes "sheet=2"
      ∷ codes "var=a 0 0"
      ∷ codes "expr=num 0"
      ∷ codes "expr=num 2"
      ∷ codes "expr=num 1"
      ∷ codes "stmt=len 1"
      ∷ codes "stmt=len 2"
      ∷ codes "stmt=chop 0 1"
      ∷ codes "stmt=is a 0"
      ∷ codes "stmt=always 3"
      ∷ codes "stmt=and 2 4"
      ∷ codes "run=5"
      ∷ [];
  states = (pos 0 ∷ []) ∷ (pos 0 ∷ []) ∷ (pos 0 ∷ []) ∷ (pos 0 ∷ []) ∷ [];
  ending = finishes;
}

-- on one state `gets` asks for nothing, though a second state would be out of range
unfoldable pub one_state : Trial
one_state = record {
  lines =
      codes "sheet=2"
      ∷ codes "var=a 0 0"
      ∷ codes "expr=num 0"
      ∷ codes "expr=num 5"
      ∷ codes "stmt=gets a 1"
      ∷ codes "stmt=empty"
      ∷ codes "stmt=and 0 1"
      ∷ codes "stmt=is a 0"
      ∷ codes "stmt=always 3"
      ∷ codes "stmt=and 2 4"
      ∷ codes "run=5"
      ∷ [];
  states = (pos 0 ∷ []) ∷ [];
  ending = finishes;
}

-- all trials
abbrev pub trial_list : List Trial
trial_list = counted ∷ out_of_range ∷ unsaid ∷ both_ends ∷ negative_length ∷ negative_rounds ∷ empty_round ∷ shared_state ∷ one_state ∷ []

-- each trial of a list comes true
pub data AllTrue : List Trial → Type 0 where
  -- there is none
  none_left : AllTrue []
  -- the first does, and each of the others
  one_more : {t : Trial} {l : List Trial} → ComesTrue t → AllTrue l → AllTrue (t ∷ l)

-- each of the trials above comes true
abbrev pub AllComeTrue : Type 0
AllComeTrue = AllTrue trial_list
