-- A turn of the loop over the lines. Assumes nothing.
use Rattle.std.proofs.Common.{◌≡◌, ℕ, ◌+◌, List, [], ◌∷◌, length, Some, Ok, Err, Result, sym, ap, ◌∙◌, subst, arith}
use Rattle.std.specs.Result.{MatchResult, IsErrAnd, result_ok}
use Rattle.sheet.specs.Sizes.{size}
use Rattle.sheet.proofs.LeftToRight.{tabled_length}
use Rattle.sheet.specs.declared.item.Item.{Item}
use Rattle.sheet.specs.PartialSheet.{PartialSheet, partial_sheet_of, extended, Room}
use Rattle.lines.specs.Lines.{line_of}
use Rattle.load.specs.Parsing.{content_of_lines, line_then, parse_lines}
use Rattle.load.specs.declared.refusals.Refusal.{Refusal}
use Rattle.sheet.specs.Content.{Content}
use Rattle.sheet.specs.declared.draft.Draft.{Draft}
use Rattle.load.specs.Loading.{Drafted}
use Rattle.load.proofs.ReadIsWritten.{Fit, line_taken}
use Rattle.load.proofs.ItemChains.{Good, good_more}

fit_room : (d : PartialSheet) (x : Item) → Good d → Fit d x → Room d x
fit_room d (Item.Variable v) g f = f.0.3
fit_room d (Item.Expression e n) g f = (f.0.3, omega (arith, f.0.3, ap length g.sized, tabled_length (size d.variables) d.expressions []))
fit_room d (Item.Statement s) g f = f.0.2
fit_room d (Item.Run n) g f = tt

-- an answer that is still there once its fault would have been changed
pub item_read : {A E F : Type 0} (r : Result A E) (s : Result A F) (x : A) (P : E → F → Type 0) → MatchResult r (λ y. s ≡ Ok y) (λ e. IsErrAnd s (P e)) → s ≡ Ok x → Ok x ≡ r
item_read (Ok y) s x P h e = let same : x ≡ y = cc in ap Ok same
item_read (Err f) s x P h e = absurd (subst (λ t. IsErrAnd t (P f)) e h)

-- a reading that came to a sheet, whose run number is n
pub drafted_ok : (r : Result ℕ Refusal) (n : ℕ) (d : Draft) (v : Result Content Refusal) → Some n ≡ result_ok r → Drafted r d v → v ≡ Ok (content_of_lines (partial_sheet_of d) n)
drafted_ok (Ok m) n d v e h = let same : m ≡ n = cc in h ∙ ap (λ k. Ok (content_of_lines (partial_sheet_of d) k)) same
drafted_ok (Err f) n d v e h = absurd (let z : ◌≡◌ {A = ℕ} 0 1 = cc in omega arith)

-- there is room for a line that was taken
pub room : (d : PartialSheet) (l : List ℕ) (x : Item) → Good d → Ok x ≡ line_of d l → Room d x
room d l x g e = fit_room d x g (line_taken d l x g.few_statements (sym e)).1

-- what is left after a line that was taken
pub turn : (n : ℕ) (d e : PartialSheet) (l : List ℕ) (ls all : List (List ℕ)) (x : Item) → Ok x ≡ line_of d l → e ≡ extended d x → all ≡ l ∷ ls → parse_lines (n + 1) e ls ≡ parse_lines n d all
turn n d e l ls all x read add cut =
    ap (λ k. parse_lines (n + 1) k ls) add ∙ ap (λ r. line_then n r (λ y. parse_lines (n + 1) (extended d y) ls)) read ∙ ap (parse_lines n d) (sym cut)

pub still_good : (d e : PartialSheet) (l : List ℕ) (x : Item) → Good d → Ok x ≡ line_of d l → e ≡ extended d x → Good e
still_good d e l x g read add = subst Good (sym add) (good_more d x (line_taken d l x g.few_statements (sym read)).1 g)
