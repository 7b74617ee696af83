-- Words and lines: what parts them, and how they are put together again. Assumes nothing.
use Rattle.std.proofs.Common.{◌≡◌, ℕ, suc, ◌*◌, ◌^◌, ◌<◌, ◌≤◌, Bool, true, false, cond, not, ◌&&◌, eqb, leb, List, [], ◌∷◌, ◌++◌, length, ℤ, pos, negsuc, nat_abs, decimal, sym, refl, ap, ◌∙◌, arith, length-append}
use Rattle.std.specs.List.{flat_map}
use Rattle.std.specs.Str.Parse.{AllDigits, digits_value}
use Rattle.std.specs.Fmt.{signed_decimal}
use Rattle.std.proofs.lemmas.Fmt.{digits_decimal, length-decimal-le}
use Rattle.std.proofs.lemmas.Str.Parse.{IsNumeralModel, numerals_by_value, tells_digits, digit_from_value}
use Rattle.std.proofs.lemmas.Bool.{and_from, and_parts, not_from_false, not-true, eqb-true, eq-eqb, ne_eqb, leb-true}
use Rattle.text.specs.Cut.{before, after, onto, parted}
use Rattle.text.proofs.CutsFit.{parted-cut}
use Rattle.sheet.specs.SheetText.{spaced, with_line_end}
use Rattle.sheet.specs.Limits.{letter, letters}

own : IsNumeralModel (AllDigits 10) (digits_value 10)
own = numerals_by_value (AllDigits 10) tells_digits

-- ---- bytes that a word lacks
abbrev pub lacks : ℕ → List ℕ → Bool
lacks c [] = true
lacks c (b ∷ bs) = not (eqb b c) && lacks c bs

lacks-digits : (c : ℕ) (w : List ℕ) → c < 48 → AllDigits 10 w → lacks c w ≡ true
lacks-digits c [] h d = refl
lacks-digits c (b ∷ bs) h d =
    let in_range_same = digit_from_value b d.0 in
    and_from _ _ (not_from_false _ (ne_eqb b c (λ q. omega (arith, in_range_same.0)))) (lacks-digits c bs h d.1)

lacks-decimal : (c n : ℕ) → c < 45 → n < 2 ^ 64 → lacks c (decimal n) ≡ true
lacks-decimal c n h s = lacks-digits c (decimal n) (omega arith) (digits_decimal own n s)

lacks-signed : (c : ℕ) (z : ℤ) → c < 45 → nat_abs z < 2 ^ 63 → lacks c (signed_decimal z) ≡ true
lacks-signed c (pos n) h s = lacks-decimal c n h (omega arith)
lacks-signed c (negsuc n) h s = and_from _ _ (not_from_false _ (ne_eqb 45 c (λ q. omega arith))) (lacks-decimal c (suc n) h (omega arith))

lacks-letters : (c : ℕ) (w : List ℕ) → c < 97 → letters w ≡ true → lacks c w ≡ true
lacks-letters c [] h e = refl
lacks-letters c (b ∷ w) h e =
    let p = and_parts (letter b) (letters w) e in
    let lo : 97 ≤ b = leb-true 97 b (and_parts (leb 97 b) (leb b 122) p.0).0 in
    and_from _ _ (not_from_false _ (ne_eqb b c (λ q. omega arith))) (lacks-letters c w h p.1)

pub lacks-append : (c : ℕ) (v w : List ℕ) → lacks c v ≡ true → lacks c w ≡ true → lacks c (v ++ w) ≡ true
lacks-append c [] w e f = f
lacks-append c (b ∷ v) w e f = let p = and_parts (not (eqb b c)) (lacks c v) e in and_from _ _ p.0 (lacks-append c v w p.1 f)

-- ---- words that a line can hold: at most 12 bytes, no space and no line end
pub record Plain (w : List ℕ) : Type 0 where
  pub space : lacks 32 w ≡ true
  pub end : lacks 10 w ≡ true
  pub short : length w ≤ 12

pub plain_decimal : (n : ℕ) → n < 200 → Plain (decimal n)
plain_decimal n h = record {
  space = lacks-decimal 32 n (omega arith) (omega arith);
  end = lacks-decimal 10 n (omega arith) (omega arith);
  short = omega (arith, length-decimal-le 3 n (omega arith) (omega arith) (omega arith));
}

signed_short : (z : ℤ) → nat_abs z ≤ 1000000 → length (signed_decimal z) ≤ 8
signed_short (pos n) h = omega (arith, length-decimal-le 7 n (omega arith) (omega arith) (omega arith))
signed_short (negsuc n) h = omega (arith, length-decimal-le 7 (suc n) (omega arith) (omega arith) (omega arith))

pub plain_signed : (z : ℤ) → nat_abs z ≤ 1000000 → Plain (signed_decimal z)
plain_signed z h = record {
  space = lacks-signed 32 z (omega arith) (omega arith);
  end = lacks-signed 10 z (omega arith) (omega arith);
  short = omega (arith, signed_short z h);
}

pub plain_letters : (w : List ℕ) → letters w ≡ true → length w ≤ 12 → Plain w
plain_letters w e h = record { space = lacks-letters 32 w (omega arith) e; end = lacks-letters 10 w (omega arith) e; short = h }

abbrev pub AllPlain : List (List ℕ) → Type 0
AllPlain [] = Unit {0}
AllPlain (w ∷ ws) = Plain w × AllPlain ws

-- ---- pieces
other : (c b : ℕ) (v : List ℕ) → lacks c (b ∷ v) ≡ true → (eqb b c ≡ false) × (lacks c v ≡ true)
other c b v e = let p = and_parts (not (eqb b c)) (lacks c v) e in (not-true (eqb b c) p.0, p.1)

pub parted-one : (c : ℕ) (w : List ℕ) → lacks c w ≡ true → parted c w ≡ w ∷ []
parted-one c [] e = refl
parted-one c (b ∷ w) e =
    let p = other c b w e in
    ap (λ t. cond t ([] ∷ parted c w) (onto b (parted c w))) p.0 ∙ ap (onto b) (parted-one c w p.1)

pub parted-more : (c : ℕ) (w bs : List ℕ) → lacks c w ≡ true → parted c (w ++ c ∷ bs) ≡ w ∷ parted c bs
parted-more c [] bs e = ap (λ t. cond t ([] ∷ parted c bs) (onto c (parted c bs))) (eq-eqb c c refl)
parted-more c (b ∷ w) bs e =
    let p = other c b w e in
    ap (λ t. cond t ([] ∷ parted c (w ++ c ∷ bs)) (onto b (parted c (w ++ c ∷ bs)))) p.0 ∙ ap (onto b) (parted-more c w bs p.1)

-- words put together are cut apart again
pub parted-spaced : (w : List ℕ) (ws : List (List ℕ)) → AllPlain (w ∷ ws) → parted 32 (spaced (w ∷ ws)) ≡ w ∷ ws
parted-spaced w [] p = parted-one 32 w p.0.space
parted-spaced w (x ∷ ws) p = parted-more 32 w (spaced (x ∷ ws)) p.0.space ∙ ap (λ l. w ∷ l) (parted-spaced x ws p.1)

pub lacks-spaced : (ws : List (List ℕ)) → AllPlain ws → lacks 10 (spaced ws) ≡ true
lacks-spaced [] p = refl
lacks-spaced (w ∷ []) p = p.0.end
lacks-spaced (w ∷ x ∷ ws) p = lacks-append 10 w (32 ∷ spaced (x ∷ ws)) p.0.end (lacks-spaced (x ∷ ws) p.1)

pub short_spaced : (ws : List (List ℕ)) → AllPlain ws → length (spaced ws) ≤ 13 * length ws
short_spaced [] p = omega arith
short_spaced (w ∷ []) p = omega (arith, p.0.short)
short_spaced (w ∷ x ∷ ws) p = omega (arith, p.0.short, length-append w (32 ∷ spaced (x ∷ ws)), short_spaced (x ∷ ws) p.1)

-- words cut apart are put together again
spaced-onto : (b : ℕ) (ws : List (List ℕ)) → spaced (onto b ws) ≡ b ∷ spaced ws
spaced-onto b [] = refl
spaced-onto b (w ∷ []) = refl
spaced-onto b (w ∷ x ∷ ws) = refl

spaced-nil : (c : ℕ) (bs : List ℕ) → spaced ([] ∷ parted c bs) ≡ 32 ∷ spaced (parted c bs)
spaced-nil c bs = ap (λ ws. spaced ([] ∷ ws)) (parted-cut c bs) ∙ ap (λ ws. 32 ∷ spaced ws) (sym (parted-cut c bs))

pub spaced-parted : (bs : List ℕ) → spaced (parted 32 bs) ≡ bs
spaced-parted [] = refl
spaced-parted (b ∷ bs) = go (eqb b 32) refl (spaced-parted bs)
  where
    go : (t : Bool) → eqb b 32 ≡ t → spaced (parted 32 bs) ≡ bs → spaced (cond t ([] ∷ parted 32 bs) (onto b (parted 32 bs))) ≡ b ∷ bs
    go true e r = spaced-nil 32 bs ∙ (λ i. sym (eqb-true b 32 e) i ∷ r i)
    go false e r = spaced-onto b (parted 32 bs) ∙ ap (λ l. b ∷ l) r

-- lines cut apart are put together again
pub ended_parted : (bs : List ℕ) → flat_map with_line_end (parted 10 bs) ≡ bs ++ 10 ∷ []
ended_parted [] = refl
ended_parted (b ∷ bs) = go (eqb b 10) refl (ended_parted bs)
  where
    go : (t : Bool) → eqb b 10 ≡ t → flat_map with_line_end (parted 10 bs) ≡ bs ++ 10 ∷ [] → flat_map with_line_end (cond t ([] ∷ parted 10 bs) (onto b (parted 10 bs))) ≡ b ∷ (bs ++ 10 ∷ [])
    go true e r = λ i. sym (eqb-true b 10 e) i ∷ r i
    go false e r =
        let cut = parted-cut 10 bs in
        ap (λ ws. flat_map with_line_end (onto b ws)) cut ∙ ap (λ ws. b ∷ flat_map with_line_end ws) (sym cut) ∙ ap (λ l. b ∷ l) r

-- a line's key and value
pub key_split : (c : ℕ) (bs : List ℕ) → (length (before c bs) ≡ length bs → ⊥) → bs ≡ before c bs ++ c ∷ after c bs
key_split c [] h = absurd (h refl)
key_split c (b ∷ bs) h = go (eqb b c) refl h (key_split c bs)
  where
    go : (t : Bool) → eqb b c ≡ t → (length (cond t [] (b ∷ before c bs)) ≡ suc (length bs) → ⊥) → ((length (before c bs) ≡ length bs → ⊥) → bs ≡ before c bs ++ c ∷ after c bs) → b ∷ bs ≡ cond t [] (b ∷ before c bs) ++ c ∷ cond t bs (after c bs)
    go true e k r = ap (λ x. x ∷ bs) (eqb-true b c e)
    go false e k r = ap (λ l. b ∷ l) (r (λ q. k (ap suc q)))

-- the word ahead of a byte that it lacks
pub before-lacks : (c : ℕ) (w bs : List ℕ) → lacks c w ≡ true → before c (w ++ c ∷ bs) ≡ w
before-lacks c [] bs e = ap (λ t. cond t [] (c ∷ before c bs)) (eq-eqb c c refl)
before-lacks c (b ∷ w) bs e =
    let p = other c b w e in
    ap (λ t. cond t [] (b ∷ before c (w ++ c ∷ bs))) p.0 ∙ ap (λ l. b ∷ l) (before-lacks c w bs p.1)
