-- What is written is read back. Assumes nothing.
use Rattle.std.proofs.Common.{◌≡◌, ℕ, zero, suc, ◌+◌, ◌^◌, ◌<◌, ◌≤◌, true, List, [], ◌∷◌, ◌++◌, length, ℤ, pos, negsuc, nat_abs, Some, None, Option, codes, decimal, unwrap_or, refl, sym, ap, subst, ◌∙◌, append_assoc, arith}
use Rattle.std.specs.Fmt.{signed_decimal}
use Rattle.std.specs.Int.{IsInRange}
use Rattle.std.specs.Str.Parse.{AllDigits, digits_value}
use Rattle.std.proofs.lemmas.Bool.{and_parts, and_from, eq-eqb, ne_eqb}
use Rattle.std.proofs.lemmas.Fmt.{digits_decimal}
use Rattle.std.proofs.lemmas.Str.Parse.{IsNumeralModel, numerals_by_value, tells_digits}
use Rattle.text.specs.Cut.{before, after}
use Rattle.text.specs.Decimals.{integer_of}
use Rattle.text.proofs.Numbers.{number_some, number_is}
use Rattle.record.specs.Rules.{small, all_small}
use Rattle.record.proofs.TextLengths.{small_abs}
use Rattle.record.specs.ReadingBack.{past, number_or_zero, read_values, read_states, Shaped, ReadsBack}
use Rattle.record.specs.StatesText.{state_line, value_line, value_lines, state_text, states_text_from}

-- the decimal digits, as the library's lemmas take them
own : IsNumeralModel (AllDigits 10) (digits_value 10)
own = numerals_by_value (AllDigits 10) tells_digits

-- no byte of a text is c
abbrev Lacks : ℕ → List ℕ → Type 0
Lacks c [] = Unit {0}
Lacks c (b ∷ bs) = (b ≡ c → ⊥) × Lacks c bs

-- what is ahead of the first c
before_first : (c : ℕ) (s t : List ℕ) → Lacks c s → before c (s ++ c ∷ t) ≡ s
before_first c [] t h = rw (eq-eqb c c refl) refl
before_first c (b ∷ s) t h = rw (ne_eqb b c h.0) (ap (λ (y : List ℕ). b ∷ y) (before_first c s t h.1))

-- what is past the first c
after_first : (c : ℕ) (s t : List ℕ) → Lacks c s → after c (s ++ c ∷ t) ≡ t
after_first c [] t h = rw (eq-eqb c c refl) refl
after_first c (b ∷ s) t h = rw (ne_eqb b c h.0) (after_first c s t h.1)

-- two texts that lack c
both_lack : (c : ℕ) (s t : List ℕ) → Lacks c s → Lacks c t → Lacks c (s ++ t)
both_lack c [] t h k = k
both_lack c (b ∷ s) t h k = (h.0, both_lack c s t h.1 k)

-- digits lack what is no digit
digits_lack : (c : ℕ) (s : List ℕ) → (IsInRange 48 57 c → ⊥) → AllDigits 10 s → Lacks c s
digits_lack c [] out d = tt
digits_lack c (b ∷ s) out d =
    let p = tells_digits.parts b s d in
    ((λ e. out (subst (IsInRange 48 57) e p.0)), digits_lack c s out p.1)

decimal_lacks : (c n : ℕ) → (IsInRange 48 57 c → ⊥) → n < 2 ^ 64 → Lacks c (decimal n)
decimal_lacks c n out h = digits_lack c (decimal n) out (digits_decimal own n h)

signed_lacks : (c : ℕ) (x : ℤ) → (IsInRange 48 57 c → ⊥) → (45 ≡ c → ⊥) → nat_abs x < 2 ^ 64 → Lacks c (signed_decimal x)
signed_lacks c (pos n) out sign h = decimal_lacks c n out h
signed_lacks c (negsuc n) out sign h = (sign, decimal_lacks c (suc n) out h)

-- a value's line, cut at its `=`
value_cut : (j : ℕ) (x : ℤ) (t : List ℕ) → value_line j x ++ t ≡ (118 ∷ decimal j) ++ 61 ∷ (signed_decimal x ++ 10 ∷ t)
value_cut j x t = simp append_assoc

-- it is read as the value
value_read : (j : ℕ) (x : ℤ) (t : List ℕ) → j < 2 ^ 64 → nat_abs x ≤ 1000000 → number_or_zero (value_line j x ++ t) ≡ x
value_read j x t h small =
    let a : after 61 (value_line j x ++ t) ≡ signed_decimal x ++ 10 ∷ t = ap (after 61) (value_cut j x t) ∙ after_first 61 (118 ∷ decimal j) (signed_decimal x ++ 10 ∷ t) ((λ e. omega arith), decimal_lacks 61 j (λ i. omega arith) h) in
    let b : before 10 (after 61 (value_line j x ++ t)) ≡ signed_decimal x = ap (before 10) a ∙ before_first 10 (signed_decimal x) t (signed_lacks 10 x (λ i. omega arith) (λ e. omega arith) (omega arith)) in
    ap (λ (o : Option ℤ). unwrap_or o (pos 0)) (number_some 1000000 _ x (omega arith) b small)

-- and it is passed
value_past : (j : ℕ) (x : ℤ) (t : List ℕ) → j < 2 ^ 64 → nat_abs x ≤ 1000000 → after 10 (value_line j x ++ t) ≡ t
value_past j x t h small =
    ap (after 10) (value_cut j x t ∙ sym (append_assoc (118 ∷ decimal j) (61 ∷ signed_decimal x) (10 ∷ t)))
    ∙ after_first 10 ((118 ∷ decimal j) ++ 61 ∷ signed_decimal x) t
    (both_lack 10 (118 ∷ decimal j) (61 ∷ signed_decimal x) ((λ e. omega arith), decimal_lacks 10 j (λ i. omega arith) h) ((λ e. omega arith), signed_lacks 10 x (λ i. omega arith) (λ e. omega arith) (omega arith)))

-- so is the line of a state's number
number_past : (k : ℕ) (t : List ℕ) → k < 2 ^ 64 → after 10 (state_line k ++ t) ≡ t
number_past k t h = ap (λ (l : List ℕ). after 10 (codes "state=" ++ l)) (append_assoc (decimal k) (10 ∷ []) t) ∙ after_first 10 (decimal k) t (decimal_lacks 10 k (λ i. omega arith) h)

-- the values of a state are read
values_read : (j : ℕ) (xs : List ℤ) (t : List ℕ) → j + length xs < 2 ^ 64 → all_small xs ≡ true → read_values (length xs) (value_lines j xs ++ t) ≡ xs
unfolding read_values value_lines
values_read j [] t h s = refl
values_read j (x ∷ xs) t h s =
    let p = and_parts (small x) (all_small xs) s in
    let q = small_abs x p.0 in
    let e = append_assoc (value_line j x) (value_lines (j + 1) xs) t in
    let a = ap number_or_zero e ∙ value_read j x (value_lines (j + 1) xs ++ t) (omega arith) q in
    let b = ap (after 10) e ∙ value_past j x (value_lines (j + 1) xs ++ t) (omega arith) q in
    (λ i. a i ∷ (ap (read_values (length xs)) b ∙ values_read (j + 1) xs t (omega arith) p.1) i)

-- and passed
values_past : (j : ℕ) (xs : List ℤ) (t : List ℕ) → j + length xs < 2 ^ 64 → all_small xs ≡ true → past (length xs) (value_lines j xs ++ t) ≡ t
unfolding past value_lines
values_past j [] t h s = refl
values_past j (x ∷ xs) t h s =
    let p = and_parts (small x) (all_small xs) s in
    let b = ap (after 10) (append_assoc (value_line j x) (value_lines (j + 1) xs) t) ∙ value_past j x (value_lines (j + 1) xs ++ t) (omega arith) (small_abs x p.0) in
    ap (past (length xs)) b ∙ values_past (j + 1) xs t (omega arith) p.1

-- the states of a record are read back from its text
pub states_read : (w k : ℕ) (xss : List (List ℤ)) → w ≤ 16 → k + length xss < 2 ^ 64 → Shaped w xss → read_states w (length xss) (states_text_from k xss) ≡ xss
unfolding read_states states_text_from
states_read w k [] v h s = refl
states_read w k (xs ∷ xss) v h s =
    let t = states_text_from (k + 1) xss in
    let few : length xs ≤ 16 = omega (arith, s.0) in
    let e : after 10 (state_text k xs ++ t) ≡ value_lines 0 xs ++ t = ap (after 10) (append_assoc (state_line k) (value_lines 0 xs) t) ∙ number_past k (value_lines 0 xs ++ t) (omega arith) in
    let a : read_values w (after 10 (state_text k xs ++ t)) ≡ xs = (λ i. read_values (sym s.0 i) (e i)) ∙ values_read 0 xs t (omega arith) s.1 in
    let b : past w (after 10 (state_text k xs ++ t)) ≡ t = (λ i. past (sym s.0 i) (e i)) ∙ values_past 0 xs t (omega arith) s.1 in
    (λ i. a i ∷ (ap (read_states w (length xss)) b ∙ states_read w (k + 1) xss v (omega arith) s.2) i)

-- the law of a text
pub reads_back : ReadsBack
reads_back w xss v h s = states_read w 0 xss v.1 (omega arith) s

-- as many values are read as were asked for
pub length_values : (w : ℕ) (t : List ℕ) → length (read_values w t) ≡ w
unfolding read_values
length_values zero t = refl
length_values (suc w) t = ap suc (length_values w (after 10 t))

-- and as many states
pub length_states : (w n : ℕ) (t : List ℕ) → length (read_states w n t) ≡ n
unfolding read_states
length_states w zero t = refl
length_states w (suc n) t = ap suc (length_states w n (past w (after 10 t)))

-- no state
pub none_read : (w : ℕ) (t : List ℕ) → read_states w 0 t ≡ []
unfolding read_states
none_read w t = refl

-- a number that is read, or 0 for none, may be recorded
small_or_zero : (o : Option ℤ) (l : List ℕ) → integer_of 1000000 l ≡ o → small (unwrap_or o (pos 0)) ≡ true
small_or_zero None l e = refl
small_or_zero (Some x) l e = let h : nat_abs x ≤ 1000000 = (number_is 1000000 l x e).1 in grind arith

-- so may each value that is read
values_small : (w : ℕ) (t : List ℕ) → all_small (read_values w t) ≡ true
unfolding read_values
values_small zero t = refl
values_small (suc w) t = and_from (small (number_or_zero t)) (all_small (read_values w (after 10 t))) (small_or_zero (integer_of 1000000 (before 10 (after 61 t))) (before 10 (after 61 t)) refl) (values_small w (after 10 t))

-- the states that are read
pub shaped_read : (w n : ℕ) (t : List ℕ) → Shaped w (read_states w n t)
unfolding read_states
shaped_read w zero t = tt
shaped_read w (suc n) t = (length_values w (after 10 t), values_small w (after 10 t), shaped_read w n (past w (after 10 t)))

-- one state more
pub shaped_more : (w : ℕ) (xss : List (List ℤ)) (xs : List ℤ) → Shaped w xss → length xs ≡ w → all_small xs ≡ true → Shaped w (xss ++ xs ∷ [])
shaped_more w [] xs s l e = (l, e, tt)
shaped_more w (ys ∷ xss) xs s l e = (s.0, s.1, shaped_more w xss xs s.2 l e)
