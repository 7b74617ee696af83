-- What a reader leaves of a text when it passes lines and looks for a number. Assumes nothing.
use Rattle.std.proofs.Common.{◌≡◌, ℕ, zero, suc, ◌+◌, ◌≤◌, List, [], length, drop, Some, None, Option, refl, sym, ap, ◌∙◌, ⊎_elim, arith}
use Rattle.std.specs.Borrow.{Bor}
use Rattle.std.proofs.lemmas.Bool.{cases_lt}
use Rattle.std.proofs.lemmas.List.{drop_all}
use Rattle.text.specs.Cut.{before, after, pieces_from, Handed}
use Rattle.text.specs.Decimals.{integer_of}
use Rattle.text.proofs.CutsFit.{rest_from, left_in, parted-cut}
use Rattle.record.specs.ReadingBack.{past, next_number}

-- within a text a piece is left
pub piece_left : (c : ℕ) (s : List ℕ) (p : ℕ) → p ≤ length s → pieces_from c s p ≡ [] → ⊥
piece_left c s p h e =
    let cut = sym (left_in c s p h ∙ parted-cut c (drop p s)) ∙ e in
    let z : ◌≡◌ {A = ℕ} 0 1 = cc in omega arith

-- a line is passed, where there is one
pub line_passed : (s : Bor (List ℕ)) (p q : ℕ) (o : Option (Bor (List ℕ))) → Handed 10 s p q o → drop q s.now ≡ after 10 (drop p s.now)
line_passed s p q None h =
    ⊎_elim
    (λ l. let e = drop_all p s.now (omega arith) in ap (λ (k : ℕ). drop k s.now) h.1 ∙ e ∙ sym (ap (after 10) e))
    (λ l. absurd (piece_left 10 s.now p l h.0))
    (cases_lt (length s.now) p)
line_passed s p q (Some x) h = rest_from 10 s.now x.now p q h.0.bytes h.2

-- no line
pub past_none : (t : List ℕ) → t ≡ past 0 t
unfolding past
past_none t = refl

-- one line more
pub past_more : (n : ℕ) (t : List ℕ) → after 10 (past n t) ≡ past (n + 1) t
unfolding past
past_more zero t = refl
past_more (suc n) t = past_more n (after 10 t) ∙ ap (λ (k : ℕ). past k t) (let e : suc (n + 1) ≡ suc n + 1 = omega arith in e)

-- without a `=` there is no number
pub no_key : (t : List ℕ) → length (before 61 t) ≡ length t → None ≡ next_number t
no_key t e =
    let a : [] ≡ after 61 t = sym (drop_all (length (before 61 t) + 1) t (omega arith)) ∙ rest_from 61 t (before 61 t) 0 (length (before 61 t) + 1) refl (omega arith) in
    ap (λ (l : List ℕ). integer_of 1000000 (before 10 l)) a
