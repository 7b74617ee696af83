-- The lines of one value more, and of one state more. Assumes nothing.
use Rattle.std.proofs.Common.{◌≡◌, ℕ, suc, ◌+◌, ◌<◌, ◌≤◌, List, [], ◌∷◌, ◌++◌, length, get_or, take, drop, ℤ, refl, sym, ap, ◌∙◌, append_assoc, length-append, add-zero, arith}
use Rattle.std.proofs.lemmas.List.{append-nil, length-take-le, take_more, take-append-drop}
use Rattle.record.specs.StatesText.{value_line, value_lines, state_text, states_text_from}

-- no value
pub values_none : (xs : List ℤ) → [] ≡ value_lines 0 (take 0 xs)
unfolding value_lines
values_none xs = refl

-- some values, and then others
values_then : (j : ℕ) (xs ys : List ℤ) → value_lines j (xs ++ ys) ≡ value_lines j xs ++ value_lines (j + length xs) ys
unfolding value_lines
values_then j [] ys = ap (λ (n : ℕ). value_lines n ys) (sym (add-zero j))
values_then j (x ∷ xs) ys =
    let e : j + 1 + length xs ≡ j + suc (length xs) = omega arith in
    ap (λ (l : List ℕ). value_line j x ++ l) (values_then (j + 1) xs ys ∙ ap (λ (n : ℕ). value_lines (j + 1) xs ++ value_lines n ys) e) ∙ sym (append_assoc (value_line j x) (value_lines (j + 1) xs) _)

-- one value
values_one : (j : ℕ) (x : ℤ) → value_lines j (x ∷ []) ≡ value_line j x
unfolding value_lines
values_one j x = append-nil (value_line j x)

-- the values ahead of place i, and the one that is there
pub values_more : (xs : List ℤ) (i : ℕ) (d : ℤ) → i < length xs → value_lines 0 (take (i + 1) xs) ≡ value_lines 0 (take i xs) ++ value_line i (get_or xs i d)
values_more xs i d h =
    let l : 0 + length (take i xs) ≡ i = omega (arith, length-take-le i xs (omega arith)) in
    ap (value_lines 0) (take_more xs i d h)
    ∙ values_then 0 (take i xs) (get_or xs i d ∷ [])
    ∙ ap (λ (l : List ℕ). value_lines 0 (take i xs) ++ l) (ap (λ (n : ℕ). value_lines n (get_or xs i d ∷ [])) l ∙ values_one i (get_or xs i d))

-- the lines of a front are no longer than all
values_front : (xs : List ℤ) (i : ℕ) → length (value_lines 0 (take i xs)) ≤ length (value_lines 0 xs)
values_front xs i =
    let a = ap (λ (l : List ℤ). length (value_lines 0 l)) (take-append-drop i xs) in
    let b = ap length (values_then 0 (take i xs) (drop i xs)) in
    let l = length-append (value_lines 0 (take i xs)) (value_lines (0 + length (take i xs)) (drop i xs)) in
    omega (arith, a, b, l)

-- so the line at place i has its bytes where those of all values have theirs
pub value_line_fits : (xs : List ℤ) (i : ℕ) (d : ℤ) (p q size : ℕ) → i < length xs → q ≡ p + length (value_lines 0 (take i xs)) → p + length (value_lines 0 xs) ≤ size → q + length (value_line i (get_or xs i d)) ≤ size
value_line_fits xs i d p q size h e f =
    let a = values_front xs (i + 1) in
    let b = ap length (values_more xs i d h) in
    let l = length-append (value_lines 0 (take i xs)) (value_line i (get_or xs i d)) in
    omega (arith, a, b, l, e, f)

-- no state
pub writing_none : [] ≡ states_text_from 0 []
unfolding states_text_from
writing_none = refl

-- one state more
pub writing_more : (k : ℕ) (xss : List (List ℤ)) (xs : List ℤ) → states_text_from k (xss ++ xs ∷ []) ≡ states_text_from k xss ++ state_text (k + length xss) xs
unfolding states_text_from
writing_more k [] xs = append-nil (state_text k xs) ∙ ap (λ (n : ℕ). state_text n xs) (sym (add-zero k))
writing_more k (ys ∷ xss) xs =
    let e : k + 1 + length xss ≡ k + suc (length xss) = omega arith in
    ap (λ (l : List ℕ). state_text k ys ++ l) (writing_more (k + 1) xss xs ∙ ap (λ (n : ℕ). states_text_from (k + 1) xss ++ state_text n xs) e) ∙ sym (append_assoc (state_text k ys) (states_text_from (k + 1) xss) _)
