-- What is told of a refusal: its published number with its line and word, a plain sentence, and both as lines. Assumes nothing.
use Rattle.std.specs.Prelude.{ℕ, List, [], ◌∷◌, ◌++◌, codes, decimal}
use Rattle.lines.specs.declared.items.Fault.{Fault}
use Rattle.lines.specs.declared.items.Fault.TheVariants.{Long, Key, Many, Form, Number, Name, Operand, Size}
use Rattle.lines.specs.Faults.{number_of_fault, word_of_fault}
use Rattle.load.specs.declared.refusals.Refusal.{Refusal}
use Rattle.load.specs.declared.refusals.Refusal.TheVariants.{Length, Unended, Header, Line, NoRun}

-- the number of a refusal, the line that is meant (0 for the whole text) and the word that is meant (0 for none)
pub record PublishedRefusal : Type 0 where
  pub number : ℕ
  pub line : ℕ
  pub word : ℕ

-- what is told as text: the number, the line and the word, with a space between two
abbrev pub refusal_text : PublishedRefusal → List ℕ
refusal_text t = decimal t.number ++ 32 ∷ decimal t.line ++ 32 ∷ decimal t.word

abbrev pub published_refusal : Refusal → PublishedRefusal
published_refusal Length = record { number = 1; line = 0; word = 0 }
published_refusal Unended = record { number = 2; line = 0; word = 0 }
published_refusal Header = record { number = 3; line = 1; word = 0 }
published_refusal (Line n f) = record { number = number_of_fault f; line = n; word = word_of_fault f }
published_refusal (NoRun n) = record { number = 12; line = n; word = 0 }

-- the sentence of a fault in a line
abbrev pub fault_sentence : Fault → List ℕ
fault_sentence Long = codes "This line has more than 64 characters."
fault_sentence Key = codes "This line's key is missing, unknown or out of order; the order is sheet, var, expr, stmt, run."
fault_sentence Many = codes "There is one line too many with this key."
fault_sentence Form = codes "The operation is unknown, or the line has too few or too many words."
fault_sentence (Number w) = codes "This word must be a plain number within its limits."
fault_sentence (Name w) = codes "This name is malformed, declared twice or not declared."
fault_sentence (Operand w) = codes "This number names an expression or statement that is not there yet."
fault_sentence Size = codes "The numbers of this expression could get larger than 1000000000."

-- the sentence of a refusal
abbrev pub sentence : Refusal → List ℕ
sentence Length = codes "The sheet is empty or has more than 16384 bytes."
sentence Unended = codes "The sheet does not end with a line end; add one after the last line."
sentence Header = codes "The first line must be exactly: sheet=2"
sentence (Line n f) = fault_sentence f
sentence (NoRun n) = codes "The sheet ends without a run line."

-- the lines that are printed of a refusal, each with the byte 10 at its end: the published number, the line and the word that are meant, or 0, and the sentence to read out
abbrev pub refused_lines : Refusal → List ℕ
refused_lines r =
    codes "refused=" ++ decimal (published_refusal r).number ++ 10 ∷ codes "line=" ++ decimal (published_refusal r).line ++ 10 ∷ codes "word=" ++ decimal (published_refusal r).word
    ++ 10 ∷ codes "reason=" ++ sentence r ++ 10 ∷ []
