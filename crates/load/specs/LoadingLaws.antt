-- The laws of loading. Assumes nothing.
use Rattle.std.specs.Prelude.{◌≡◌, ℕ, ◌+◌, ◌<◌, ◌≤◌, true, false, ◌⊎◌, List, [], ◌∷◌, length, take, drop, None, Ok, Err, codes, Result, ◌≢◌, slice_index_or}
use Rattle.text.specs.Cut.{parted}
use Rattle.sheet.specs.Content.{Content}
use Rattle.sheet.specs.SheetText.{sheet_text}
use Rattle.sheet.specs.Limits.{Limits}
use Rattle.lines.specs.declared.items.Fault.{Fault}
use Rattle.sheet.specs.declared.item.Item.{Item}
use Rattle.sheet.specs.PartialSheet.{PartialSheet, no_lines, extended}
use Rattle.lines.specs.Lines.{line_of}
use Rattle.lines.specs.Faults.{Before, fault_applies}
use Rattle.load.specs.declared.refusals.Refusal.{Refusal}
use Rattle.load.specs.declared.refusals.Refusal.TheVariants.{Length, Unended, Header, Line, NoRun}
use Rattle.load.specs.Parsing.{without_last_byte, last_byte, parse_sheet}

-- a text is accepted as the sheet c exactly when it is the writing of c and c keeps the limits:
-- nothing is accepted that is not a sheet, nothing is refused that is, and one text spells one sheet
abbrev pub AcceptsTheSheets : Type 0
AcceptsTheSheets =
    (text : List ℕ) (c : Content) → (parse_sheet text ≡ Ok c → (text ≡ sheet_text c) × Limits c) × ((text ≡ sheet_text c) × Limits c → parse_sheet text ≡ Ok c)

-- what is said after one line more; a line with a fault says nothing
abbrev pub after_line : PartialSheet → Result Item Fault → PartialSheet
after_line d (Ok x) = extended d x
after_line d (Err f) = d

-- what the lines ls say after d
abbrev pub after_lines : PartialSheet → List (List ℕ) → PartialSheet
after_lines d [] = d
after_lines d (l ∷ ls) = after_lines (after_line d (line_of d l)) ls

-- no fault fits any of the first j lines of ls, which come after d
abbrev pub Faultless : PartialSheet → List (List ℕ) → ℕ → Type 0
Faultless d ls j = (i : ℕ) → i < j → (g : Fault) → fault_applies (after_lines d (take i ls)) (slice_index_or ls i []) g ≡ false

-- of the lines ls, which come after d, the first with a fault is the one at place j; f fits it, and no fault before f does
pub record FirstAt (d : PartialSheet) (ls : List (List ℕ)) (j : ℕ) (f : Fault) : Type 0 where
  pub there : j < length ls
  pub earlier : Faultless d ls j
  pub fault : fault_applies (after_lines d (take j ls)) (slice_index_or ls j []) f ≡ true
  pub smaller : (g : Fault) → Before g f → fault_applies (after_lines d (take j ls)) (slice_index_or ls j []) g ≡ false

-- the lines of a text that ends with a line end
abbrev pub lines_in : List ℕ → List (List ℕ)
lines_in text = parted 10 (without_last_byte text)

-- the lines after the first
abbrev pub later_lines : List ℕ → List (List ℕ)
later_lines text = drop 1 (lines_in text)

-- the number of bytes is right
abbrev pub Sized : List ℕ → Type 0
Sized text = (0 < length text) × (length text ≤ 16384)

-- why a text is refused: each case says that its own condition holds and those before it do not
abbrev pub FirstReason : List ℕ → Refusal → Type 0
FirstReason text Length = (length text ≡ 0) ⊎ (16384 < length text)
FirstReason text Unended = Sized text × (last_byte text ≢ 10)
FirstReason text Header = Sized text × (last_byte text ≡ 10) × (slice_index_or (lines_in text) 0 [] ≢ codes "sheet=2")
FirstReason text (Line n f) =
    Sized text × (last_byte text ≡ 10) × (slice_index_or (lines_in text) 0 [] ≡ codes "sheet=2") × ((j : ℕ) × (n ≡ 2 + j) × FirstAt no_lines (later_lines text) j f)
FirstReason text (NoRun n) =
    Sized text × (last_byte text ≡ 10) × (slice_index_or (lines_in text) 0 [] ≡ codes "sheet=2") × (n ≡ 2 + length (later_lines text))
    × Faultless no_lines (later_lines text) (length (later_lines text)) × ((after_lines no_lines (later_lines text)).run ≡ None)

-- the refusal that is told is the first that there is a reason for: no earlier line has a fault, and no smaller number fits the line told
abbrev pub TellsTheFirstFault : Type 0
TellsTheFirstFault = (text : List ℕ) (r : Refusal) → parse_sheet text ≡ Err r → FirstReason text r
