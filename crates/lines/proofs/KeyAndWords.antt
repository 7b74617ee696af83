-- The key and the words of a line. Assumes nothing.
use Rattle.std.proofs.Common.{◌≡◌, ℕ, ◌<◌, ◌≤◌, eqb, ltb, List, [], length, drop, Option, Result, None, Some, Ok, sym, ap, ◌∙◌, subst, arith, Bor}
use Rattle.std.proofs.lemmas.Bool.{ne_eqb, le-ltb, cond-false}
use Rattle.text.specs.Cut.{before, after, parted, pieces_from, KeyAt}
use Rattle.text.proofs.CutsFit.{left_in, parted-cut}
use Rattle.lines.specs.declared.items.Fault.{Fault}
use Rattle.lines.specs.declared.items.Keyword.{Keyword}
use Rattle.sheet.specs.PartialSheet.{PartialSheet}
use Rattle.lines.specs.Operations.{keyword_of}
use Rattle.lines.specs.Lines.{then, checked_key, item_of, key_in, words_in, line_of}
use Rattle.std.specs.Option.{ok_or}

-- there is always a piece
pub parted_some : (c : ℕ) (s : List ℕ) → parted c s ≡ [] → ⊥
parted_some c s e = let cut = parted-cut c s in let z : ◌≡◌ {A = ℕ} 0 1 = cc in omega arith

-- a line that has its key before place q, and words behind it
pub keyed_line : (d : PartialSheet) (l w : List ℕ) (q : ℕ) → length l ≤ 64 → length (before 61 l) < length l → w ≡ before 61 l → drop q l ≡ after 61 l → q ≤ length l
    → line_of d l ≡ then (ok_or (keyword_of w) Fault.Key) (λ k. then (checked_key d k) (λ k. item_of d k (pieces_from 32 l q)))
keyed_line d l w q short some key rest inside =
    cond-false (ltb 64 (length l)) _ _ (le-ltb 64 _ short)
    ∙ (λ i. then (ok_or (marked i) Fault.Key) (λ k. then (checked_key d k) (λ k. item_of d k (words i))))
  where
    marked : key_in l ≡ keyword_of w
    marked = cond-false (eqb (length (before 61 l)) (length l)) _ _ (ne_eqb _ _ (λ e. omega arith)) ∙ ap keyword_of (sym key)

    words : words_in l ≡ pieces_from 32 l q
    words = sym (left_in 32 l q inside ∙ ap (parted 32) rest)

-- the same, where a reader s of the line t handed out the key and u is what it then reads
pub line_read : (d : PartialSheet) (s t u w : Bor (List ℕ)) (p q : ℕ) → s ≡ t → p ≡ 0 → u ≡ s → length t.now ≤ 64 → KeyAt s p q (Some w)
    → line_of d t.now ≡ then (ok_or (keyword_of w.now) Fault.Key) (λ k. then (checked_key d k) (λ k. item_of d k (pieces_from 32 u.now q)))
line_read d s t u w p q e z f short key =
    let at : KeyAt t 0 q (Some w) = subst (λ (x : Bor (List ℕ)). KeyAt x 0 q (Some w)) e (subst (λ (n : ℕ). KeyAt s n q (Some w)) z key) in
    keyed_line d t.now w.now q short at.1 at.0.bytes at.2 at.3
    ∙ ap (λ (x : Bor (List ℕ)). then (ok_or (keyword_of w.now) Fault.Key) (λ k. then (checked_key d k) (λ k. item_of d k (pieces_from 32 x.now q)))) (sym (f ∙ e))

-- what holds of an option holds of the value that was taken out of it
pub taken_out : {A E : Type 0} (P : Option A → Type 0) (o : Option A) (x : A) (f : E) → Ok x ≡ ok_or o f → P o → P (Some x)
taken_out P None x f e h = absurd (let z : ◌≡◌ {A = ℕ} 0 1 = cc in omega arith)
taken_out P (Some y) x f e h = let same : y ≡ x = cc in subst (λ z. P (Some z)) same h

-- a line whose key is k and is admitted
pub line_admitted : (d : PartialSheet) (o p : Option Keyword) (k j : Keyword) (ws : List (List ℕ)) → o ≡ p → Ok k ≡ ok_or o Fault.Key → Ok j ≡ checked_key d k
    → then (ok_or p Fault.Key) (λ k. then (checked_key d k) (λ k. item_of d k ws)) ≡ item_of d j ws
line_admitted d o p k j ws e f g =
    ap (λ (r : Result Keyword Fault). then r (λ k. then (checked_key d k) (λ k. item_of d k ws))) (sym (f ∙ ap (λ q. ok_or q Fault.Key) e))
    ∙ ap (λ (r : Result Keyword Fault). then r (λ k. item_of d k ws)) (sym g)
