-- What a load answers, and what it leaves. Assumes nothing.
use Rattle.std.specs.Prelude.{◌≡◌, ℕ, Ok, Err, Result}
use Rattle.sheet.specs.Content.{Content}
use Rattle.sheet.specs.declared.draft.Draft.{Draft}
use Rattle.sheet.specs.PartialSheet.{partial_sheet_of}
use Rattle.load.specs.declared.refusals.Refusal.{Refusal}
use Rattle.load.specs.Parsing.{content_of_lines}

-- a text was read, and v comes of it: the draft holds the sheet, whose run number is answered, or the refusal is
abbrev pub Drafted : Result ℕ Refusal → Draft → Result Content Refusal → Type 0
Drafted (Ok n) d v = v ≡ Ok (content_of_lines (partial_sheet_of d) n)
Drafted (Err r) d v = v ≡ Err r

-- a load of a text of which v comes, from the sheet s to the sheet t: t is the sheet of the text, or nothing changed
abbrev pub LoaderLoads : Result (Unit {0}) Refusal → Content → Content → Result Content Refusal → Type 0
LoaderLoads (Ok u) s t v = v ≡ Ok t
LoaderLoads (Err r) s t v = (v ≡ Err r) × (t ≡ s)
