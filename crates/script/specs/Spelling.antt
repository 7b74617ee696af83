-- How the lines of a script are spelled: words, with one space between two. Assumes nothing.
use Rattle.std.specs.Prelude.{◌≡◌, ℕ, ◌≤◌, ◌↔◌, List, [], ◌∷◌, Some, None, Option, codes, decimal, unsigned_abs}
use Rattle.std.specs.Fmt.{signed_decimal}
use Rattle.text.specs.Cut.{parted}
use Rattle.feed.specs.declared.list.Reading.{Reading as Readings}
use Rattle.script.specs.declared.call.Call.{Call}
use Rattle.script.specs.declared.call.Call.TheVariants.{Sheet, Table, Text, Reading, Silence, Begin, Advance, Look, Report, Abandon, Record, Name}

-- the words of a record of readings: STATE, VARIABLE and NUMBER
abbrev pub reading_words : Readings → List (List ℕ)
reading_words r = decimal r.state ∷ decimal r.variable ∷ signed_decimal r.number ∷ []

-- none of its numbers is further from 0 than a million
abbrev pub SmallReading : Readings → Type 0
SmallReading r = (r.state ≤ 1000000) × (r.variable ≤ 1000000) × (unsigned_abs r.number ≤ 1000000)

-- o is the record that the words of l spell, and there is none where they spell none
abbrev pub ReadsReading : List ℕ → Option Readings → Type 0
ReadsReading l o = (r : Readings) → (o ≡ Some r) ↔ ((parted 32 l ≡ reading_words r) × SmallReading r)

-- the words of a line
abbrev pub call_words : Call → List (List ℕ)
call_words (Sheet f) = codes "sheet" ∷ f.now ∷ []
call_words (Table n) = codes "table" ∷ decimal n ∷ []
call_words (Text n) = codes "text" ∷ decimal n ∷ []
call_words (Reading r) = codes "reading" ∷ reading_words r
call_words Silence = codes "silence" ∷ []
call_words Begin = codes "begin" ∷ []
call_words (Advance n) = codes "advance" ∷ decimal n ∷ []
call_words (Look k x) = codes "look" ∷ decimal k ∷ decimal x ∷ []
call_words Report = codes "report" ∷ []
call_words Abandon = codes "abandon" ∷ []
call_words Record = codes "record" ∷ []
call_words (Name k) = codes "name" ∷ decimal k ∷ []

-- no number in it is further from 0 than a million
abbrev pub SmallCall : Call → Type 0
SmallCall (Sheet f) = Unit {0}
SmallCall (Table n) = n ≤ 1000000
SmallCall (Text n) = n ≤ 1000000
SmallCall (Reading r) = SmallReading r
SmallCall Silence = Unit {0}
SmallCall Begin = Unit {0}
SmallCall (Advance n) = n ≤ 1000000
SmallCall (Look k x) = (k ≤ 1000000) × (x ≤ 1000000)
SmallCall Report = Unit {0}
SmallCall Abandon = Unit {0}
SmallCall Record = Unit {0}
SmallCall (Name k) = k ≤ 1000000

-- the line l spells the call c
abbrev pub Spells : List ℕ → Call → Type 0
Spells l c = (parted 32 l ≡ call_words c) × SmallCall c

-- o is the call that the line l spells, and there is none where it spells none
abbrev pub ReadsCall : List ℕ → Option Call → Type 0
ReadsCall l None = (c : Call) → Spells l c → ⊥
ReadsCall l (Some c) = Spells l c
