-- What the calls answer and do. Assumes nothing.
use Rattle.std.specs.Prelude.{◌≡◌, ℕ, ◌++◌, false, true, if◌then◌else◌, List, drop, length, ℤ, Ok, Err, Option, Result, nat_le}
use Rattle.sheet.specs.Content.{Content}
use Rattle.load.specs.declared.refusals.Refusal.{Refusal}
use Rattle.load.specs.RefusalText.{sentence}
use Rattle.meaning.specs.declared.duties.Stop.{Stop}
use Rattle.meaning.specs.declared.duties.Stop.TheVariants.{Contradiction, Undetermined, Crowded}
use Rattle.meaning.specs.Runs.{open_number}
use Rattle.calls.specs.declared.answers.NotAdvanced.TheVariants.{Denied, Full, Stopped}
use Rattle.calls.specs.declared.answers.NotLoaded.TheVariants.{Refused}
use Rattle.calls.specs.declared.answers.Progress.TheVariants.{Open, Finished}
use Rattle.calls.specs.Standing.{Meant}
use Rattle.calls.specs.Published.{advance_number, stop_number, text_number, text_line, text_word}
use Rattle.summary.specs.declared.closing.Closing.{Closing}
use Rattle.summary.specs.declared.closing.Closing.TheVariants.{NotLoaded, Advanced}
use Rattle.summary.specs.Shown.{InText, InNumbers}
use Rattle.embed.specs.declared.answer.AnswerNumbers.{AnswerNumbers}

-- an answer that tells nothing
abbrev pub nothing : AnswerNumbers
nothing = record { number = 0; line = 0; word = 0; statement = 0; variable = 0; finished = false; states = 0; width = 0; length = 0 }

-- there is no memory for what the call needs
abbrev pub lacking : AnswerNumbers
lacking = record nothing { number = 50 }

-- a stop at state k, where as many states are recorded: its number, and the statement or the variable that it means
abbrev pub stopped_at : ℕ → Stop → AnswerNumbers
stopped_at k (Contradiction p) = record nothing { number = stop_number (Contradiction p); states = k; statement = p }
stopped_at k (Undetermined x) = record nothing { number = stop_number (Undetermined x); states = k; variable = open_number x }
stopped_at k Crowded = record nothing { number = stop_number Crowded; states = k }

-- what is to be told at the end: a text that is not loaded, or what an advance answered
abbrev pub answer_of : Closing → AnswerNumbers
answer_of (NotLoaded x) = record nothing { number = text_number x; line = text_line x; word = text_word x }
answer_of (Advanced (Ok (Finished n))) = record nothing { finished = true; states = n }
answer_of (Advanced (Ok (Open n))) = record nothing { states = n }
answer_of (Advanced (Err (Denied d))) = record nothing { number = advance_number (Denied d) }
answer_of (Advanced (Err (Full k))) = record nothing { number = advance_number (Full k); states = k }
answer_of (Advanced (Err (Stopped c))) = stopped_at c.state c.stop

-- a check of a text of which this comes: how many variables its sheet has; or why it is refused, and the sentence to read out at the front of the caller's bytes, if it fits
abbrev pub Checks : Result Content Refusal → List ℕ → AnswerNumbers → List ℕ → Type 0
Checks (Ok c) old a new = (a ≡ record nothing { width = length c.variables }) × (new ≡ old)
Checks (Err r) old a new = (a ≡ record (answer_of (NotLoaded (Refused r))) { length = if nat_le (length (sentence r)) (length old) then length (sentence r) else 0 })
    × (new ≡ (if nat_le (length (sentence r)) (length old) then sentence r ++ drop (length (sentence r)) old else old))

-- a run of a text of which this comes under the readings f, for up to n states, by an engine of the call's own: its record stands as text at the front of the caller's bytes, and has as many states as are answered
abbrev pub RunsInText : Result Content Refusal → (ℕ → ℕ → Option ℤ) → ℕ → List ℕ → AnswerNumbers → List ℕ → Type 0
RunsInText v f n old a new = (x : Closing) × (e : Meant) × (d : Meant) × (h : InText v f n a.length old new x e d) × (a.states ≡ length h.recorder.states) × (a ≡ record (answer_of x) { length = a.length })

-- the same, where its record stands as a table at the front of the caller's numbers
abbrev pub RunsInNumbers : Result Content Refusal → (ℕ → ℕ → Option ℤ) → ℕ → List ℤ → AnswerNumbers → List ℤ → Type 0
RunsInNumbers v f n old a new = (x : Closing) × (e : Meant) × (d : Meant) × (h : InNumbers v f n a.width old new x e d) × (a.states ≡ length h.recorder.states) × (a ≡ record (answer_of x) { width = a.width })

-- what a call does, whose work in the caller's memory is this: the work; or nothing, where there is no memory for what it needs
pub data Does {A : Type 0} (Work : AnswerNumbers → List A → Type 0) (old : List A) : AnswerNumbers → List A → Type 0 where
  work : {a : AnswerNumbers} {new : List A} → Work a new → Does Work old a new
  none : Does Work old lacking old
