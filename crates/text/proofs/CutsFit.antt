-- How the cuts of a text fit together. Assumes nothing.
use Rattle.std.proofs.Common.{◌≡◌, ℕ, suc, ◌+◌, ◌<◌, ◌≤◌, true, false, cond, eqb, leb, List, [], ◌∷◌, length, take, drop, sym, refl, ap, subst, ◌∙◌, ⊎_elim, arith, length-drop}
use Rattle.std.proofs.lemmas.List.{at_drop_all, drop-drop}
use Rattle.std.proofs.lemmas.Bool.{le-leb, lt-leb, cases_lt}
use Rattle.std.proofs.lemmas.List.Recursion.{is_position_or_len}
use Rattle.std.proofs.lemmas.Grind.{common_steps}
use Rattle.std.specs.List.{position_or_len}
use Rattle.std.proofs.lemmas.List.Sums.{prefix_len-le-length}
use Rattle.std.specs.Prelude.{Some, None, not, position, unwrap_or, Option, ◌==◌}
use Rattle.std.specs.Borrow.{Bor}
use Rattle.text.specs.Cut.{before, after, onto, parted, pieces_from, KeyAt}

-- a search that ends with the text
pub reach_end : (c : ℕ) (s : List ℕ) (i : ℕ) → length s ≤ i → length (before c (drop i s)) ≡ 0
reach_end c s i h = at_drop_all (λ l. length (before c l)) s i h

-- what is ahead of the first c, as a front of the text
take-before : (c : ℕ) (bs : List ℕ) → take (length (before c bs)) bs ≡ before c bs
take-before c [] = refl
take-before c (b ∷ bs) =
    elim (eqb b c) as (λ t. take (length (cond t [] (b ∷ before c bs))) (b ∷ bs) ≡ cond t [] (b ∷ before c bs)) [ true ↦ refl | false ↦ ap (λ l. b ∷ l) (take-before c bs) ]

-- what is past the first c, as an end of the text
drop-before : (c : ℕ) (bs : List ℕ) → drop (suc (length (before c bs))) bs ≡ after c bs
drop-before c [] = refl
drop-before c (b ∷ bs) =
    elim (eqb b c) as (λ t. drop (suc (length (cond t [] (b ∷ before c bs)))) (b ∷ bs) ≡ cond t bs (after c bs)) [ true ↦ refl | false ↦ drop-before c bs ]

-- what is left at the place past a part x that starts at p
pub rest_from : (c : ℕ) (s x : List ℕ) (p q : ℕ) → x ≡ before c (drop p s) → q ≡ p + length x + 1 → drop q s ≡ after c (drop p s)
rest_from c s x p q e f =
    ap (λ k. drop k s) (omega (arith, ap length e)) ∙ sym (drop-drop (suc (length (before c (drop p s)))) p s) ∙ drop-before c (drop p s)

-- two orders that hold together have one test
leb-same : (a b x y : ℕ) → (a ≤ b → x ≤ y) → (x ≤ y → a ≤ b) → leb a b ≡ leb x y
leb-same a b x y f g =
    ⊎_elim
    (λ h. let k : y < x = ⊎_elim (λ l. l) (λ l. absurd (omega (arith, g l))) (cases_lt y x) in lt-leb a b h ∙ sym (lt-leb x y k))
    (λ h. le-leb a b h ∙ sym (le-leb x y (f h)))
    (cases_lt b a)

-- one byte less, one place less
left-suc : (c b : ℕ) (bs : List ℕ) (p : ℕ) → pieces_from c (b ∷ bs) (suc p) ≡ pieces_from c bs p
left-suc c b bs p = ap (λ t. cond t (parted c (drop p bs)) []) (leb-same _ _ _ _ (λ h. omega arith) (λ h. omega arith))

-- within the text the pieces that are left are those of the rest
pub left_in : (c : ℕ) (s : List ℕ) (p : ℕ) → p ≤ length s → pieces_from c s p ≡ parted c (drop p s)
left_in c s p h = ap (λ t. cond t (parted c (drop p s)) []) (le-leb _ _ h)

-- the pieces of the rest from p on, k further
left-drop : (c : ℕ) (s : List ℕ) (p k : ℕ) → p ≤ length s → pieces_from c (drop p s) k ≡ pieces_from c s (p + k)
left-drop c s p k h =
    let n = length-drop p s in
    (λ i. cond (leb-same k (length (drop p s)) (p + k) (length s) (λ l. omega arith) (λ l. omega arith) i) (parted c (drop-drop k p s i)) [])

-- the first piece, and those that are left past it
pub parted-cut : (c : ℕ) (bs : List ℕ) → parted c bs ≡ before c bs ∷ pieces_from c bs (suc (length (before c bs)))
parted-cut c [] = refl
parted-cut c (b ∷ bs) =
    elim (eqb b c) as (λ t. cond t ([] ∷ parted c bs) (onto b (parted c bs)) ≡ cond t [] (b ∷ before c bs) ∷ pieces_from c (b ∷ bs) (suc (length (cond t [] (b ∷ before c bs))))) [
      | true ↦ ap (λ l. [] ∷ l) (sym (left-suc c b bs 0 ∙ left_in c bs 0 (omega arith)))
      | false ↦ ap (onto b) (parted-cut c bs) ∙ ap (λ l. (b ∷ before c bs) ∷ l) (sym (left-suc c b bs (suc (length (before c bs)))))
    ]

-- the first piece x of those from p on, and those from the place past it
pub left_cut : (c : ℕ) (s x : List ℕ) (p q : ℕ) → p ≤ length s → x ≡ before c (drop p s) → q ≡ p + length x + 1 → pieces_from c s p ≡ x ∷ pieces_from c s q
left_cut c s x p q h e f =
    let k : p + suc (length (before c (drop p s))) ≡ q = omega (arith, ap length e) in
    left_in c s p h ∙ parted-cut c (drop p s) ∙ (λ i. sym e i ∷ (left-drop c s p (suc (length (before c (drop p s)))) h ∙ ap (pieces_from c s) k) i)

-- every text has a piece
pub left_some : (c : ℕ) (s : List ℕ) → pieces_from c s 0 ≡ [] → ⊥
left_some c s e =
    let cut = left_in c s 0 (omega arith) ∙ parted-cut c s in
    let z : ◌≡◌ {A = ℕ} 0 1 = cc in omega arith

-- what is ahead of the first c, by a test for c
length-before : (c : ℕ) (bs : List ℕ) → length (before c bs) ≡ position_or_len (λ (b : ℕ). b == c) bs
length-before c = is_position_or_len (λ bs. length (before c bs)) (λ (b : ℕ). b == c) refl (λ b bs. elim (eqb b c) as (λ t. length (cond t [] (b ∷ before c bs)) ≡ cond t 0 (1 + length (before c bs))) [ true ↦ refl | false ↦ omega arith ])

-- no more stands ahead of the first c than there is
before-le : (c : ℕ) (bs : List ℕ) → length (before c bs) ≤ length bs
before-le c bs = omega (arith, length-before c bs, prefix_len-le-length (λ b. not (b == c)) bs)

-- where a search found a c, that is how much stands ahead of it
pub found_at : (c : ℕ) (bs : List ℕ) (n : ℕ) → Some n ≡ position (λ (b : ℕ). b == c) bs → (n ≡ length (before c bs)) × (n < length bs)
found_at c bs n e = let p = length-before c bs in grind (arith, common_steps)

-- where a search found no c, all stands ahead of it
pub found_none : (c : ℕ) (bs : List ℕ) → None ≡ position (λ (b : ℕ). b == c) bs → length (before c bs) ≡ length bs
found_none c bs e = let p = length-before c bs in let q = prefix_len-le-length (λ b. not (b == c)) bs in grind (arith, common_steps)

-- the place of the first c, or else the end
pub found_or_end : (c : ℕ) (bs : List ℕ) (r : Option ℕ) → r ≡ position (λ (b : ℕ). b == c) bs → unwrap_or r (length bs) ≡ length (before c bs)
found_or_end c bs None e = sym (found_none c bs e)
found_or_end c bs (Some n) e = (found_at c bs n e).0

-- a cut of a text at the first c past place p, where there is one
pub cut_at : (c : ℕ) (s r : List ℕ) (p n : ℕ) → p ≤ length s → r ≡ drop p s → Some n ≡ position (λ (b : ℕ). b == c) r
    → (take n r ≡ before c (drop p s)) × (length (before c (drop p s)) < length (drop p s)) × (drop (p + (n + 1)) s ≡ after c (drop p s)) × (p + (n + 1) ≤ length s)
cut_at c s r p n h w e =
    let f = found_at c (drop p s) n (e ∙ ap (position (λ (b : ℕ). b == c)) w) in
    let cut : take n r ≡ before c (drop p s) = (λ i. take (f.0 i) (w i)) ∙ take-before c (drop p s) in
    let l = length-drop p s in
    (cut, omega (arith, f.0, f.1), rest_from c s (before c (drop p s)) p (p + (n + 1)) refl (omega (arith, f.0)), omega (arith, f.1, l))

-- no key is handed out of a text where no `=` stands past place p
pub no_key : (s : Bor (List ℕ)) (r : List ℕ) (p : ℕ) (o : Option (Bor (List ℕ))) → o ≡ None → r ≡ drop p s.now → None ≡ position (λ (b : ℕ). b == 61) r → KeyAt s p p o
no_key s r p o e w f = subst (KeyAt s p p) (sym e) (found_none 61 (drop p s.now) (f ∙ ap (position (λ (b : ℕ). b == 61)) w), refl)

-- the first piece of what is left of a text from place p on, cut at the first c or at the end
pub piece_at : (c : ℕ) (s r : List ℕ) (p n : ℕ) (o : Option ℕ) → p ≤ length s → r ≡ drop p s → o ≡ position (λ (b : ℕ). b == c) r → n ≡ unwrap_or o (length r)
    → (take n r ≡ before c (drop p s)) × (pieces_from c s p ≡ take n r ∷ pieces_from c s (p + (n + 1))) × (p + (n + 1) ≡ p + length (take n r) + 1) × (p + (n + 1) ≤ length s + 1)
piece_at c s r p n o h w e f =
    let k : n ≡ length (before c (drop p s)) = f ∙ ap (λ l. unwrap_or o (length l)) w ∙ found_or_end c (drop p s) o (e ∙ ap (position (λ (b : ℕ). b == c)) w) in
    let cut : take n r ≡ before c (drop p s) = (λ i. take (k i) (w i)) ∙ take-before c (drop p s) in
    let l = length-drop p s in
    let m = before-le c (drop p s) in
    let q : p + (n + 1) ≡ p + length (take n r) + 1 = omega (arith, k, ap length cut) in
    (cut, left_cut c s (take n r) p (p + (n + 1)) h cut q, q, omega (arith, k, m, l))
