-- How an example stands in a table. The byte 10 ends a line. Assumes nothing.
use Rattle.std.specs.Prelude.{◌≡◌, ℕ, ◌+◌, ◌-◌, ◌≤◌, ◌↔◌, ◌++◌, List, length, take, drop, Option, Some, codes}
use Rattle.text.specs.Cut.{before, parted}
use Rattle.feed.specs.declared.list.Reading.{Reading as Readings}
use Rattle.script.specs.Spelling.{reading_words, SmallReading}
use Rattle.cases.specs.declared.part.Part.{Part}
use Rattle.cases.specs.declared.part.Part.TheVariants.{Name, Formula, Text, Answer, Reading, Record, Closing, End, Other}
use Rattle.cases.specs.declared.kinds.Example.{Example}
use Rattle.cases.specs.declared.kinds.Kind.{Kind}
use Rattle.cases.specs.declared.kinds.Kind.TheVariants.{Loaded, Shown, Worked}
use Rattle.cases.specs.declared.kinds.LoadedText.{LoadedText}
use Rattle.cases.specs.declared.kinds.ShownText.{ShownText}
use Rattle.cases.specs.declared.kinds.WorkedSheet.{WorkedSheet}
use Rattle.cases.specs.Parts.{part_in}

-- o is the reading of the line l, and there is none where the line spells none: its words stand behind the 8 bytes of `reading=`
abbrev pub ReadsLine : List ℕ → Option Readings → Type 0
ReadsLine l o = (r : Readings) → (o ≡ Some r) ↔ ((l ≡ codes "reading=" ++ drop 8 l) × (parted 32 (drop 8 l) ≡ reading_words r) × SmallReading r)

-- the line at a place of a text, without its end
abbrev pub line_from : List ℕ → ℕ → List ℕ
line_from text p = before 10 (drop p text)

-- the place behind that line
abbrev pub behind_line : List ℕ → ℕ → ℕ
behind_line text p = p + length (line_from text p) + 1

-- the bytes from a place of a text up to another
abbrev pub between : List ℕ → ℕ → ℕ → List ℕ
between text p q = take (q - p) (drop p text)

-- from place p up to place q stand lines that all say this
pub data AllSay (text : List ℕ) (part : Part) (p : ℕ) : ℕ → Type 0 where
  -- there is none
  no_line : AllSay text part p p
  -- there is one more
  one_more : {q : ℕ} → AllSay text part p q → q ≤ length text → part_in (line_from text q) ≡ part → AllSay text part p (behind_line text q)

-- a text and its answer stand in a table from place p up to place q
pub record LoadedStandsAt (table : List ℕ) (e : LoadedText) (p q : ℕ) : Type 0 where
  -- the first line has the text, behind the 5 bytes of `text=`
  pub first : part_in (line_from table p) ≡ Text
  pub packed : e.packed.now ≡ drop 5 (line_from table p)
  -- the second one has the answer, behind the 7 bytes of `answer=`, and there is no other
  pub second : part_in (line_from table (behind_line table p)) ≡ Answer
  pub answer : e.answer.now ≡ drop 7 (line_from table (behind_line table p))
  pub over : q ≡ behind_line table (behind_line table p)

-- a text and what is shown of its run stand in a table from place p up to place q
pub record ShownStandsAt (table : List ℕ) (e : ShownText) (p q : ℕ) : Type 0 where
  -- where its closing lines begin
  pub at_closing : ℕ
  -- the first line has the text, behind the 5 bytes of `text=`
  pub first : part_in (line_from table p) ≡ Text
  pub packed : e.packed.now ≡ drop 5 (line_from table p)
  -- the lines of the record follow
  pub record_lines : AllSay table Other (behind_line table p) at_closing
  pub states : e.«record».now ≡ between table (behind_line table p) at_closing
  -- the closing lines begin with a verdict or a refusal, and stand up to the end
  pub closes : part_in (line_from table at_closing) ≡ Closing
  pub closing_lines : AllSay table Other (behind_line table at_closing) q
  pub closing : e.closing.now ≡ between table at_closing q

-- a worked sheet stands in a table from place p up to place q
pub record WorkedStandsAt (table : List ℕ) (e : WorkedSheet) (p q : ℕ) : Type 0 where
  -- where its readings, its record and its closing lines begin
  pub at_readings : ℕ
  pub at_record : ℕ
  pub at_closing : ℕ
  -- the sheet, the readings and the record follow one another
  pub sheet_lines : AllSay table Other p at_readings
  pub sheet : e.sheet.now ≡ between table p at_readings
  pub reading_lines : AllSay table Reading at_readings at_record
  pub readings : e.readings.now ≡ between table at_readings at_record
  pub record_lines : AllSay table Record at_record at_closing
  pub states : e.«record».now ≡ between table at_record at_closing
  -- the closing lines begin with a verdict or a refusal, and stand up to its end
  pub closes : part_in (line_from table at_closing) ≡ Closing
  pub closing_lines : AllSay table Other (behind_line table at_closing) q
  pub closing : e.closing.now ≡ between table at_closing q

-- what an example is of stands in a table from place p up to place q
abbrev pub KindStandsAt : List ℕ → Kind → ℕ → ℕ → Type 0
KindStandsAt table (Loaded e) p q = LoadedStandsAt table e p q
KindStandsAt table (Shown e) p q = ShownStandsAt table e p q
KindStandsAt table (Worked e) p q = WorkedStandsAt table e p q

-- an example stands in a table from place p up to place q
pub record StandsAt (table : List ℕ) (e : Example) (p q : ℕ) : Type 0 where
  -- where what it is of begins
  pub at_kind : ℕ
  -- the first line has the name, behind the 8 bytes of `example=`
  pub first : part_in (line_from table p) ≡ Name
  pub name : e.name.now ≡ drop 8 (line_from table p)
  -- the formula stands between that line and what the example is of
  pub formula : AllSay table Formula (behind_line table p) at_kind
  pub kind : KindStandsAt table e.kind at_kind q
  -- behind it there is an empty line, or nothing
  pub ends : part_in (line_from table q) ≡ End
