-- Where the name of a variable stands in the text of its sheet. Assumes nothing.
use Rattle.std.specs.Prelude.{◌≡◌, ℕ, ◌+◌, ◌<◌, ◌≤◌, List, [], ◌∷◌, map, length, take, drop, Some, None, Ok, codes, Option, slice_index_or}
use Rattle.std.specs.Borrow.{Bor}
use Rattle.std.specs.List.{flat_map}
use Rattle.text.specs.Cut.{before, parted, PartAt}
use Rattle.sheet.specs.Content.{Content}
use Rattle.sheet.specs.SheetText.{with_line_end, name_of_variable, variable_line}
use Rattle.load.specs.Parsing.{parse_sheet}
use Rattle.load.specs.LoadingLaws.{lines_in}

-- the place of the name of variable k: past the first line, the lines of the variables before it, and `var=`
abbrev pub name_place : Content → ℕ → ℕ
name_place c k = length (flat_map with_line_end (codes "sheet=2" ∷ map variable_line (take k c.variables))) + 4

-- r is the name of variable k in the sheet that the text s spells, as a part of s;
-- none where s is refused, or its sheet has no such variable
abbrev pub NameOf : Bor (List ℕ) → ℕ → Option (Bor (List ℕ)) → Type 0
NameOf s k None = (c : Content) → parse_sheet s.now ≡ Ok c → length c.variables ≤ k
NameOf s k (Some x) = (c : Content) × (parse_sheet s.now ≡ Ok c) × (k < length c.variables) × PartAt s x (name_place c k) (name_of_variable c.variables k)

-- how many bytes stand before line k of the lines ws, counted from 0
abbrev pub start_of : List (List ℕ) → ℕ → ℕ
start_of ws k = length (flat_map with_line_end (take k ws))

-- r is line k of the text s, counted from 0; line ends part the lines
abbrev pub LineAt : Bor (List ℕ) → ℕ → Option (Bor (List ℕ)) → Type 0
LineAt s k None = length (parted 10 s.now) ≤ k
LineAt s k (Some x) = (k < length (parted 10 s.now)) × PartAt s x (start_of (parted 10 s.now) k) (slice_index_or (parted 10 s.now) k [])

-- r is the first word past `var=` in the line s
abbrev pub NameIn : Bor (List ℕ) → Option (Bor (List ℕ)) → Type 0
NameIn s None = length s.now < 4
NameIn s (Some x) = PartAt s x 4 (before 32 (drop 4 s.now))

-- r is that word in line n of the text s, which ends with a line end
abbrev pub NameAt : Bor (List ℕ) → ℕ → Option (Bor (List ℕ)) → Type 0
NameAt s n None = 0 < length s.now → n < length (lines_in s.now) → length (slice_index_or (lines_in s.now) n []) < 4
NameAt s n (Some x) = PartAt s x (start_of (lines_in s.now) n + 4) (before 32 (drop 4 (slice_index_or (lines_in s.now) n [])))
