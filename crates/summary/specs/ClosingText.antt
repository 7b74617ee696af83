-- The lines that close the print of a run, each with the byte 10 at its end. Assumes nothing.
use Rattle.std.specs.Prelude.{ℕ, List, [], ◌∷◌, ◌++◌, Ok, Err, Result, codes}
use Rattle.meaning.specs.Runs.{open_number}
use Rattle.meaning.specs.declared.duties.Stop.{Stop}
use Rattle.meaning.specs.declared.duties.Stop.TheVariants.{Contradiction, Undetermined, Crowded}
use Rattle.calls.specs.Published.{text_number, text_line, text_word}
use Rattle.calls.specs.declared.answers.NotAdvanced.{NotAdvanced}
use Rattle.calls.specs.declared.answers.NotAdvanced.TheVariants.{Denied, Full, Stopped}
use Rattle.calls.specs.declared.answers.NotLoaded.{NotLoaded}
use Rattle.calls.specs.declared.answers.Progress.{Progress}
use Rattle.calls.specs.declared.answers.Progress.TheVariants.{Open, Finished}
use Rattle.record.specs.StatesText.{number_line}
use Rattle.summary.specs.declared.closing.Closing.{Closing}

-- a text that is not loaded: `refused=` with its published number, then `line=` and `word=` with what is meant, or 0
abbrev pub not_loaded_lines : NotLoaded → List ℕ
not_loaded_lines x = number_line (codes "refused=") (text_number x) ++ number_line (codes "line=") (text_line x) ++ number_line (codes "word=") (text_word x)

-- how a run stands: `verdict=` with one word, and `states=` with the count of states that are recorded
abbrev pub status_lines : List ℕ → ℕ → List ℕ
status_lines word n = codes "verdict=" ++ word ++ 10 ∷ [] ++ number_line (codes "states=") n

-- a run that met a stop at state k, where as many states are recorded;
-- a third line has the statement of a contradiction, or the variable that is left open, 99 for a span's end
abbrev pub stopped_lines : ℕ → Stop → List ℕ
stopped_lines k (Contradiction p) = status_lines (codes "contradiction") k ++ number_line (codes "statement=") p
stopped_lines k (Undetermined x) = status_lines (codes "undetermined") k ++ number_line (codes "variable=") (open_number x)
stopped_lines k Crowded = status_lines (codes "crowded") k

-- what the last advance answered; a denied one has done nothing, and has no lines
abbrev pub advanced_lines : Result Progress NotAdvanced → List ℕ
advanced_lines (Ok (Finished n)) = status_lines (codes "finished") n
advanced_lines (Ok (Open n)) = status_lines (codes "open") n
advanced_lines (Err (Full k)) = status_lines (codes "full") k
advanced_lines (Err (Stopped c)) = stopped_lines c.state c.stop
advanced_lines (Err (Denied d)) = []

-- the closing lines
abbrev pub closing_text : Closing → List ℕ
closing_text (Closing.NotLoaded x) = not_loaded_lines x
closing_text (Closing.Advanced a) = advanced_lines a
