-- What comes of a text whose last byte ends a line, by its first line. Assumes nothing.
use Rattle.std.proofs.Common.{◌≡◌, ℕ, ◌≤◌, List, [], ◌∷◌, ◌++◌, length, refl, sym, ap, ◌∙◌, arith, Bor}
use Rattle.text.specs.Cut.{pieces_from}
use Rattle.text.proofs.CutsFit.{left_in}
use Rattle.load.specs.Parsing.{check_header, parse_sheet}
use Rattle.load.proofs.SheetIsAccepted.{text_taken}

-- the first line of the text s is w, as the reader of all but its last byte, whose text is t, told
pub from_first : (s l t : Bor (List ℕ)) (b : ℕ) (w : List ℕ) (p q : ℕ) → s.now ≡ l.now ++ b ∷ [] → b ≡ 10 → length s.now ≤ 16384 → t ≡ l → p ≡ 0
    → pieces_from 10 t.now p ≡ w ∷ pieces_from 10 t.now q → parse_sheet s.now ≡ check_header (w ∷ pieces_from 10 t.now q)
from_first s l t b w p q whole ten short same zero cut =
    let all = ap (λ (r : Bor (List ℕ)). pieces_from 10 r.now p) same ∙ ap (pieces_from 10 l.now) zero ∙ left_in 10 l.now 0 (omega arith) in
    text_taken s.now l.now _ _ (whole ∙ ap (λ (c : ℕ). l.now ++ c ∷ []) ten) short (sym all ∙ cut) refl
