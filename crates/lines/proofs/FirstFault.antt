-- The fault that is told of a line is the first that fits. Assumes nothing.
use Rattle.std.proofs.Common.{◌≡◌, ℕ, Bool, true, false, cond, not, ltb, List, ◌∷◌, length, None, Some, Ok, Err, Option, Result, refl, ap}
use Rattle.std.proofs.lemmas.Bool.{true≢false}
use Rattle.std.specs.Option.{ok_or}
use Rattle.lines.specs.declared.items.Fault.{Fault}
use Rattle.sheet.specs.declared.item.Item.{Item}
use Rattle.lines.specs.declared.items.Keyword.{Keyword}
use Rattle.sheet.specs.PartialSheet.{PartialSheet}
use Rattle.lines.specs.Lines.{then, allowed, key_full, checked_key, item_of, key_in, words_in, line_of}
use Rattle.lines.specs.WordMeanings.{form_of, Line, line_in}
use Rattle.lines.specs.Faults.{applies_to, fault_applies, FirstFault}
use Rattle.lines.proofs.FaultTries.{tried}
use Rattle.lines.proofs.FaultOrder.{behind, every, first_told}
use Rattle.lines.proofs.LineStages.{Found, variable_line_tried, expression_line_tried, statement_line_tried, run_line_tried}

-- a key that may come, ahead of what its line says
admitted_step : (p q : Bool) (k : Keyword) (f : Keyword → Result Item Fault) (s : Result Item Fault) → (q ≡ false → f k ≡ s)
    → then (cond p (cond q (Err Fault.Many) (Ok k)) (Err Fault.Key)) f ≡ cond (not p) (Err Fault.Key) (cond q (Err Fault.Many) s)
admitted_step true true k f s h = refl
admitted_step true false k f s h = h refl
admitted_step false q k f s h = refl

-- a line of n bytes with the key k and the words ws
abbrev shaped : ℕ → Option Keyword → List (List ℕ) → Line
shaped n k ws = record { bytes = n; key = k; words = ws; form = form_of k ws }

-- r comes of trying the faults of such a line from that of its key on
abbrev Keyed : PartialSheet → ℕ → Option Keyword → List (List ℕ) → Result Item Fault → Type 0
Keyed d n k ws r = (v : Item) × (r ≡ tried (applies_to d (shaped n k ws)) (Fault.Key ∷ Fault.Many ∷ behind) v)

module _ (d : PartialSheet) (n : ℕ) (ws : List (List ℕ)) where
  -- what an admitted line says, or its fault
  by_item : (k : Keyword) (v : Item) → (key_full d k ≡ false → item_of d k ws ≡ tried (applies_to d (shaped n (Some k) ws)) behind v) → Keyed d n (Some k) ws (then (checked_key d k) (λ j. item_of d j ws))
  by_item k v h = (v, admitted_step (allowed d k) (key_full d k) k (λ j. item_of d j ws) (tried (applies_to d (shaped n (Some k) ws)) behind v) h)

  by_found : (k : Keyword) → Found d (shaped n (Some k) ws) (item_of d k ws) → Keyed d n (Some k) ws (then (checked_key d k) (λ j. item_of d j ws))
  by_found k f = by_item k f.0 (λ _. f.1)

  keyed : (k : Keyword) → Keyed d n (Some k) ws (then (checked_key d k) (λ j. item_of d j ws))
  keyed Keyword.Sheet = by_item Keyword.Sheet (Item.Run 0) (λ e. absurd (true≢false e))
  keyed Keyword.Var = by_found Keyword.Var (variable_line_tried d n (Some Keyword.Var) ws)
  keyed Keyword.Expr = by_found Keyword.Expr (expression_line_tried d n (Some Keyword.Expr) ws)
  keyed Keyword.Stmt = by_found Keyword.Stmt (statement_line_tried d n (Some Keyword.Stmt) ws)
  keyed Keyword.Run = by_found Keyword.Run (run_line_tried d n (Some Keyword.Run) ws)

  -- a line that may have no known key
  perhaps : (o : Option Keyword) → Keyed d n o ws (then (ok_or o Fault.Key) (λ k. then (checked_key d k) (λ j. item_of d j ws)))
  perhaps None = (Item.Run 0, refl)
  perhaps (Some k) = keyed k

-- a line, as all its faults tried in order
line_tried : (d : PartialSheet) (l : List ℕ) → (v : Item) × (line_of d l ≡ tried (fault_applies d l) every v)
line_tried d l =
    let f = perhaps d (length l) (words_in l) (key_in l) in
    (f.0, ap (cond (ltb 64 (length l)) (Err Fault.Long)) f.1)

pub first_fault : FirstFault
first_fault d l = let f = line_tried d l in first_told d (line_in l) f.0 (line_of d l) f.1
