-- A text is tried out by computation: it is loaded, and then a run of it is played, without readings.
-- There is fuel for the passes of a state and for the states of a run; where one runs out, there is no answer.
-- What follows a test is handed to it as a function, since a call computes its arguments first.
use Rattle.std.proofs.Common.{ℕ, zero, suc, true, false, List, [], ◌∷◌, ◌++◌, length, ℤ, Some, None, Ok, Err, Option, Result}
use Rattle.sheet.specs.Content.{Content}
use Rattle.load.specs.declared.refusals.Refusal.{Refusal}
use Rattle.load.specs.Parsing.{parse_sheet}
use Rattle.meaning.specs.Intervals.{Setting, under, width}
use Rattle.meaning.specs.Work.{Work, Outcome, stops, goes}
use Rattle.meaning.specs.Passes.{pass}
use Rattle.meaning.specs.Runs.{Step, stopped, recorded, finished, step_of, first_work}
use Rattle.trials.specs.Trials.{TrialEnding, finishes, meets, Trial, trial_text, silence}

-- the fuel for the passes of a state, and for the states of a run: enough for every trial
abbrev pub fuel : ℕ
fuel = 9

-- after a pass: the outcome, or more passes where it changed something
abbrev pub after_pass : (Work → Option Outcome) → Outcome → Option Outcome
after_pass more (stops s) = Some (stops s)
after_pass more (goes u false) = Some (goes u false)
after_pass more (goes u true) = more u

-- at most n passes at state k
abbrev pub passes : Setting → ℕ → ℕ → Work → Option Outcome
passes S k zero w = None
passes S k (suc n) w = after_pass (passes S k n) (pass S k w)

-- what a run comes to: its record, and how it ends
pub record Played : Type 0 where
  pub states : List (List ℤ)
  pub ending : TrialEnding

-- after a state behind the record r: the end of the run, or more states
abbrev pub after_step : List (List ℤ) → (List (List ℤ) → Work → Option Played) → Step → Option Played
after_step r more (stopped s) = Some (record { states = r; ending = meets s })
after_step r more (recorded x u) = more (r ++ x ∷ []) u
after_step r more (finished x) = Some (record { states = r ++ x ∷ []; ending = finishes })

-- after the passes at the state behind the record r, with n variables
abbrev pub after_passes : ℕ → List (List ℤ) → (List (List ℤ) → Work → Option Played) → Option Outcome → Option Played
after_passes n r more None = None
after_passes n r more (Some o) = after_step r more (step_of n o)

-- at most n states of the run behind the record r, where the first of them starts with the work w
abbrev pub plays : Setting → ℕ → List (List ℤ) → Work → Option Played
plays S zero r w = None
plays S (suc n) r w = after_passes (width S) r (plays S n) (passes S (length r) fuel w)

-- a run of what was loaded
abbrev pub plays_loaded : Result Content Refusal → Option Played
plays_loaded (Ok c) = plays (under c silence) fuel [] (first_work c.run)
plays_loaded (Err e) = None

-- what is said of some lines, once it is known what comes of them
abbrev pub said : List (List ℕ) → Option Played → Option Trial
said ls None = None
said ls (Some x) = Some (record { lines = ls; states = x.states; ending = x.ending })

-- the trial with these lines that comes true
abbrev pub tried_out : List (List ℕ) → Option Trial
tried_out ls = said ls (plays_loaded (parse_sheet (trial_text ls)))

-- one trial more, where there is one and the others are there
abbrev pub joined_to : Option Trial → Option (List Trial) → Option (List Trial)
joined_to None ts = None
joined_to (Some t) None = None
joined_to (Some t) (Some ts) = Some (t ∷ ts)

-- the trials with these lines that come true, if there is one for each
abbrev pub all_tried_out : List (List (List ℕ)) → Option (List Trial)
all_tried_out [] = Some []
all_tried_out (ls ∷ l) = joined_to (tried_out ls) (all_tried_out l)
