-- What comes of a text: its run from the first state on, or why it is refused. Assumes nothing.
use Rattle.std.specs.Prelude.{◌≡◌, ℕ, ◌*◌, ◌≤◌, List, [], ◌&&◌, Bool, true, false, drop, length, take, ℤ, Ok, Err, Option, Result, nat_le}
use Rattle.sheet.specs.Content.{Content}
use Rattle.load.specs.declared.refusals.Refusal.{Refusal}
use Rattle.record.specs.Rows.{rows, table_capacity as numbers_capacity}
use Rattle.meaning.specs.Intervals.{under}
use Rattle.meaning.specs.Runs.{first_work}
use Rattle.record.specs.StatesText.{text_capacity, states_text}
use Rattle.calls.specs.declared.answers.Denial.TheVariants.{WrongStates}
use Rattle.calls.specs.declared.answers.NotAdvanced.{NotAdvanced}
use Rattle.calls.specs.declared.answers.NotLoaded.{NotLoaded as Unloaded}
use Rattle.calls.specs.declared.answers.NotLoaded.TheVariants.{Refused}
use Rattle.calls.specs.declared.answers.Progress.{Progress}
use Rattle.calls.specs.Standing.{Standing, running, Meant, Recording, blank}
use Rattle.calls.specs.Published.{PublishedAnswer, published, to_advance, published_denial, published_not_loaded}
use Rattle.calls.specs.Calls.{Settled, Abandons}
use Rattle.summary.specs.declared.closing.Closing.{Closing}
use Rattle.summary.specs.declared.closing.Closing.TheVariants.{NotLoaded, Advanced}
use Rattle.summary.specs.ClosingText.{closing_text}

-- up to n states of a run of this sheet, from its first state on, under the readings f, into the blank recorder q;
-- or a denial, where n is not one of 1 to 1,000: what is answered, how the engine stands then, and the recorder
abbrev pub FromTheFirstBy : Bool → Content → (ℕ → ℕ → Option ℤ) → ℕ → Recording → PublishedAnswer → Standing → Recording → Type 0
FromTheFirstBy true c f n q a s p = Settled (under c f) n q (first_work c.run) a s p
FromTheFirstBy false c f n q a s p = (a ≡ published_denial WrongStates) × (s ≡ running 0 (first_work c.run)) × (p ≡ q)

-- the same, into a recorder of this capacity for each width
abbrev pub FromTheFirst : Content → (ℕ → ℕ → Option ℤ) → ℕ → (ℕ → ℕ) → PublishedAnswer → Standing → Recording → Type 0
FromTheFirst c f n capacity a s p = FromTheFirstBy (nat_le 1 n && nat_le n 1000) c f n (blank (length c.variables) (capacity (length c.variables))) a s p

-- that run came to this answer, and left this recorder, and an engine that means d: it holds the sheet, and stands as the run has left it
pub record RanSheet (c : Content) (f : ℕ → ℕ → Option ℤ) (n : ℕ) (capacity : ℕ → ℕ) (answer : Result Progress NotAdvanced) (recorder : Recording) (d : Meant) : Type 0 where
  pub settled : FromTheFirst c f n capacity (published (to_advance answer)) d.standing recorder
  pub sheet : d.sheet ≡ c

-- the engine has given up the run that it had open, and nothing else
abbrev pub GivesUpRun : Meant → Meant → Type 0
GivesUpRun e d = (a : PublishedAnswer) × Abandons e a d

-- what is done with a text of which this comes, by an engine that means e before and d after: a run of its sheet;
-- or it is told why the text is refused, the recorder is as it was, and the engine has given up what it had open
abbrev pub RunOrRefusal : Result Content Refusal → (ℕ → ℕ → Option ℤ) → ℕ → (ℕ → ℕ) → Recording → Closing → Recording → Meant → Meant → Type 0
RunOrRefusal (Ok c) f n capacity q x p e d = (a : Result Progress NotAdvanced) × (x ≡ Advanced a) × RanSheet c f n capacity a p d
RunOrRefusal (Err r) f n capacity q x p e d = (y : Unloaded) × (x ≡ NotLoaded y) × (published_not_loaded y ≡ published_not_loaded (Refused r)) × (p ≡ q) × GivesUpRun e d

-- lent memory of which only a front that ends here was written on: no place behind it changes
pub record WritesFront {A : Type 0} (end : ℕ) (old new : List A) : Type 0 where
  pub inside : end ≤ length new
  pub behind : drop end new ≡ drop end old

-- what comes of a text, where the record stands as text at the front of the bytes, and ends here
pub record InText (v : Result Content Refusal) (f : ℕ → ℕ → Option ℤ) (n end : ℕ) (old new : List ℕ) (closing : Closing) (e d : Meant) : Type 0 where
  pub recorder : Recording
  pub come : RunOrRefusal v f n (text_capacity (length old)) (blank 1 (text_capacity (length old) 1)) closing recorder e d
  pub kept : take end new ≡ states_text recorder.states
  pub front : WritesFront end old new

-- the same, where the record stands as a table of this width at the front of the numbers
pub record InNumbers (v : Result Content Refusal) (f : ℕ → ℕ → Option ℤ) (n width : ℕ) (old new : List ℤ) (closing : Closing) (e d : Meant) : Type 0 where
  pub recorder : Recording
  pub come : RunOrRefusal v f n (numbers_capacity (length old)) (blank 1 (numbers_capacity (length old) 1)) closing recorder e d
  pub wide : width ≡ recorder.width
  pub kept : rows width (length recorder.states) new ≡ recorder.states
  pub front : WritesFront (length recorder.states * width) old new

-- what is shown of a text of which this comes, by an engine that means e before and d after: the text of the record of a run of its sheet, in so many bytes, and the lines that close it;
-- or no record, and why the text is refused, and the engine has given up what it had open
abbrev pub Printed : Result Content Refusal → (ℕ → ℕ → Option ℤ) → ℕ → ℕ → List ℕ → List ℕ → Meant → Meant → Type 0
Printed (Ok c) f n size text closing e d = (x : Result Progress NotAdvanced) × (p : Recording) × RanSheet c f n (text_capacity size) x p d × (text ≡ states_text p.states) × (closing ≡ closing_text (Advanced x))
Printed (Err r) f n size text closing e d = (text ≡ []) × (closing ≡ closing_text (NotLoaded (Refused r))) × GivesUpRun e d
