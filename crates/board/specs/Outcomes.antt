-- What an answer says, with the work that is left. Assumes nothing.
use Rattle.std.specs.Prelude.{Bool, true, false, if◌then◌else◌, ◌||◌, List, [], ◌∷◌, ◌++◌, length, Ok, Err, Result, nat_lt}
use Rattle.meaning.specs.declared.duties.Stop.{Stop}
use Rattle.meaning.specs.declared.duties.Stop.TheVariants.{Crowded}
use Rattle.meaning.specs.declared.duties.Duty.{Duty}
use Rattle.meaning.specs.Work.{Work, Outcome, stops, goes, has_duty}
use Rattle.meaning.specs.Effects.{most_duties}

-- an answer whether anything has changed, or a stop, is an outcome
abbrev pub outcome_of : Result Bool Stop → Work → Outcome
outcome_of (Ok c) u = goes u c
outcome_of (Err s) u = stops s

-- an answer where something has changed before if c
abbrev pub afterwards : Bool → Result Bool Stop → Result Bool Stop
afterwards c (Ok b) = Ok (c || b)
afterwards c (Err s) = Err s

-- the answer where a duty is added, once, to a list that has room for 512
abbrev pub adding_once : Duty → List Duty → Result Bool Stop
adding_once d l = if has_duty d l then Ok false else if nat_lt (length l) most_duties then Ok true else Err Crowded

-- and the list after that answer: one duty longer, if something has changed
abbrev pub grown : Result Bool Stop → Duty → List Duty → List Duty
grown (Ok true) d l = l ++ d ∷ []
grown (Ok false) d l = l
grown (Err s) d l = l
