-- What comes of a text: the sheet that it spells, or why it is refused. Assumes nothing.
use Rattle.std.specs.Prelude.{ℕ, ◌+◌, ◌-◌, cond, ◌||◌, List, [], ◌∷◌, length, take, Some, None, Ok, Err, codes, Option, Result, ◌==◌, nat_lt, slice_index}
use Rattle.std.specs.Str.{bytes_eq}
use Rattle.text.specs.Cut.{parted}
use Rattle.sheet.specs.Content.{Content}
use Rattle.lines.specs.declared.items.Fault.{Fault}
use Rattle.sheet.specs.declared.item.Item.{Item}
use Rattle.sheet.specs.PartialSheet.{PartialSheet, no_lines, extended}
use Rattle.lines.specs.Lines.{line_of}
use Rattle.load.specs.declared.refusals.Refusal.{Refusal}

-- the sheet that lines spell, where statement n is run
abbrev pub content_of_lines : PartialSheet → ℕ → Content
content_of_lines d n = record { variables = d.variables; expressions = d.expressions; statements = d.statements; run = n }

-- after the last line, where line n would follow: a run line must have stood
abbrev pub require_run : ℕ → PartialSheet → Option ℕ → Result Content Refusal
require_run n d None = Err (Refusal.NoRun n)
require_run n d (Some s) = Ok (content_of_lines d s)

-- line n, and then the others
abbrev pub line_then : ℕ → Result Item Fault → (Item → Result Content Refusal) → Result Content Refusal
line_then n (Ok x) rest = rest x
line_then n (Err f) rest = Err (Refusal.Line n f)

-- the lines from line n on, after those that said d
abbrev pub parse_lines : ℕ → PartialSheet → List (List ℕ) → Result Content Refusal
parse_lines n d [] = require_run n d d.run
parse_lines n d (l ∷ ls) = line_then n (line_of d l) (λ x. parse_lines (n + 1) (extended d x) ls)

-- all lines: the first is `sheet=2`
abbrev pub check_header : List (List ℕ) → Result Content Refusal
check_header [] = Err Refusal.Header
check_header (l ∷ ls) = cond (bytes_eq l (codes "sheet=2")) (parse_lines 2 no_lines ls) (Err Refusal.Header)

-- the text without its last byte
abbrev pub without_last_byte : List ℕ → List ℕ
without_last_byte text = take (length text - 1) text

-- the text's last byte
abbrev pub last_byte : List ℕ → ℕ
last_byte text = slice_index text (length text - 1)

-- what comes of a text: 1 to 16,384 bytes, the last one ends a line, and then line by line
abbrev pub parse_sheet : List ℕ → Result Content Refusal
parse_sheet text =
    cond (length text == 0 || nat_lt 16384 (length text)) (Err Refusal.Length)
    (cond (last_byte text == 10) (check_header (parted 10 (without_last_byte text))) (Err Refusal.Unended))
