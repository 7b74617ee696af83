-- A walk over the lines of a text. Assumes nothing.
use Rattle.std.proofs.Common.{◌≡◌, ℕ, ◌+◌, ◌<◌, ◌≤◌, List, [], ◌∷◌, length, get_or, take, drop, Some, None, Option, sym, ap, ◌∙◌, subst, arith, length-append, length-drop, Bor}
use Rattle.std.specs.List.{flat_map}
use Rattle.std.proofs.lemmas.List.{drop_more, take_more, flat_map_more}
use Rattle.text.specs.Cut.{before, parted, pieces_from, PartAt, Handed}
use Rattle.text.proofs.CutsFit.{left_some}
use Rattle.sheet.specs.SheetText.{with_line_end}
use Rattle.load.specs.Naming.{start_of, LineAt, NameIn}

-- what is known where line i of ws, which is x, was handed out
pub record Came (ws : List (List ℕ)) (i : ℕ) (x : List ℕ) (rest : List (List ℕ)) : Type 0 where
  pub there : i < length ws
  pub line : x ≡ get_or ws i []
  pub more : drop (i + 1) ws ≡ rest
  pub place : start_of ws (i + 1) ≡ start_of ws i + length x + 1

pub came : (ws : List (List ℕ)) (i : ℕ) (x : List ℕ) (rest : List (List ℕ)) → drop i ws ≡ x ∷ rest → Came ws i x rest
came ws i x rest e =
    let h : i < length ws = omega (arith, ap length e, length-drop i ws) in
    let d = sym e ∙ drop_more ws i [] h in
    let one : x ≡ get_or ws i [] = cc in
    let two : drop (i + 1) ws ≡ rest = cc in
    let f = ap (flat_map with_line_end) (take_more ws i [] h) ∙ sym (flat_map_more with_line_end [] (take i ws) (get_or ws i [])) in
    let n = ap length f ∙ length-append (flat_map with_line_end (take i ws)) (with_line_end (get_or ws i [])) in
    record { there = h; line = one; more = two; place = omega (arith, n, length-append (get_or ws i []) (10 ∷ []), ap length one) }

-- none is left
pub none_left : (ws : List (List ℕ)) (i k : ℕ) → drop i ws ≡ [] → i ≤ k → length ws ≤ k
none_left ws i k e h = omega (arith, ap length e, length-drop i ws)

-- a reader of the text t, whose place is p, hands out line i
pub line_came : (s t x : Bor (List ℕ)) (p q i : ℕ) → s ≡ t → pieces_from 10 t.now p ≡ drop i (parted 10 t.now) → Handed 10 s p q (Some x) → Came (parted 10 t.now) i x.now (pieces_from 10 t.now q)
line_came s t x p q i e l h =
    let k : Handed 10 t p q (Some x) = subst (λ (u : Bor (List ℕ)). Handed 10 u p q (Some x)) e h in
    came (parted 10 t.now) i x.now (pieces_from 10 t.now q) (sym l ∙ k.1)

-- the line after i others, and none
pub line_last : (s t : Bor (List ℕ)) (p q i k : ℕ) (r : Option (Bor (List ℕ))) → s ≡ t → i ≡ k → pieces_from 10 t.now p ≡ drop i (parted 10 t.now) → p ≡ start_of (parted 10 t.now) i → Handed 10 s p q r → LineAt t k r
line_last s t p q i k None e f l at h =
    let g : Handed 10 t p q None = subst (λ (u : Bor (List ℕ)). Handed 10 u p q None) e h in
    none_left (parted 10 t.now) i k (sym l ∙ g.0) (omega arith)
line_last s t p q i k (Some x) e f l at h =
    let g : Handed 10 t p q (Some x) = subst (λ (u : Bor (List ℕ)). Handed 10 u p q (Some x)) e h in
    let c = line_came s t x p q i e l h in
    let o = g.0 in
    subst (λ n. LineAt t n (Some x)) f (c.there, record { bytes = c.line; block = o.block; offset = o.offset ∙ ap (λ n. t.ref_ptr.1 + n) at })

-- t is the part of s from place n on
pub record RestOfLines (s t : Bor (List ℕ)) (n : ℕ) (bs : List ℕ) : Type 0 where
  pub bytes : t.now ≡ bs
  pub block : t.ref_ptr.0 ≡ s.ref_ptr.0
  pub offset : t.ref_ptr.1 ≡ s.ref_ptr.1 + n

-- a part of a part
pub part_of : (s t x : Bor (List ℕ)) (n m : ℕ) (bs cs ds : List ℕ) → RestOfLines s t n bs → PartAt t x m cs → cs ≡ ds → PartAt s x (n + m) ds
part_of s t x n m bs cs ds r p e = record { bytes = p.bytes ∙ e; block = p.block ∙ r.block; offset = omega (arith, p.offset, r.offset) }

-- the first word of what stands past the first four bytes
pub name_word : (s t u : Bor (List ℕ)) (p q : ℕ) (r : Option (Bor (List ℕ))) → RestOfLines s t 4 (drop 4 s.now) → u ≡ t → p ≡ 0 → Handed 32 u p q r → NameIn s r
name_word s t u p q None rest e z h =
    let k : Handed 32 t 0 q None = subst (λ (w : Bor (List ℕ)). Handed 32 w 0 q None) e (subst (λ n. Handed 32 u n q None) z h) in
    absurd (left_some 32 t.now k.0)
name_word s t u p q (Some x) rest e z h =
    let k : Handed 32 t 0 q (Some x) = subst (λ (w : Bor (List ℕ)). Handed 32 w 0 q (Some x)) e (subst (λ n. Handed 32 u n q (Some x)) z h) in
    part_of s t x 4 0 _ _ _ rest k.0 (ap (before 32) rest.bytes)
