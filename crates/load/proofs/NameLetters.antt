-- Names: the letters of a word, and the variable that has them. Assumes nothing.
use Rattle.std.proofs.Common.{◌≡◌, ℕ, zero, suc, ◌-◌, ◌<◌, ◌≤◌, Bool, true, false, cond, not, ◌&&◌, ltb, leb, List, [], ◌∷◌, ◌++◌, length, get_or, take, replicate, is_some, Some, None, Option, sym, refl, ap, ◌∙◌, subst, arith}
use Rattle.std.specs.Str.{bytes_eq}
use Rattle.std.proofs.lemmas.Slice.Eq.{bytes_eq-Decides}
use Rattle.std.proofs.lemmas.Bool.{and_parts, ne_eqb, leb-true, ltb-true, lt-ltb, cond-true, not-true}
use Rattle.text.specs.Cut.{before}
use Rattle.std.specs.List.{position, position_or_len}
use Rattle.std.proofs.lemmas.List.Sums.{passes_at_first, fails_before_first, position_or_len_is}
use Rattle.std.proofs.lemmas.List.{length-take-le, get_or-take}
use Rattle.sheet.specs.declared.elements.Name.{Name}
use Rattle.sheet.specs.declared.elements.Variable.{Variable}
use Rattle.sheet.specs.Content.{letters_of, no_variable, variable_at}
use Rattle.sheet.specs.SheetText.{name_of_variable}
use Rattle.sheet.specs.Limits.{letter, letters, proper, name_filled, name_ok, name_of, declared, variable_ok, VariablesOk}
use Rattle.sheet.specs.PartialSheet.{PartialSheet}
use Rattle.lines.specs.Lines.{number_by}
use Rattle.load.proofs.UpToFirstFault.{clash_none, if_some}

-- ---- a word's name, and the word of a name
before-zeros : (w : List ℕ) (k : ℕ) → letters w ≡ true → before 0 (w ++ replicate k 0) ≡ w
before-zeros [] zero e = refl
before-zeros [] (suc k) e = refl
before-zeros (b ∷ bs) k e =
    let p = and_parts (letter b) (letters bs) e in
    let lo : 97 ≤ b = leb-true 97 b (and_parts (leb 97 b) (leb b 122) p.0).0 in
    ap (λ t. cond t [] (b ∷ before 0 (bs ++ replicate k 0))) (ne_eqb b 0 (λ q. omega arith)) ∙ ap (λ l. b ∷ l) (before-zeros bs k p.1)

pub proper_parts : (w : List ℕ) → proper w ≡ true → (letters w ≡ true) × (length w ≤ 12)
proper_parts w e =
    let p = and_parts (ltb 0 (length w)) (leb (length w) 12 && letters w) e in
    let q = and_parts (leb (length w) 12) (letters w) p.1 in
    (q.1, leb-true (length w) 12 q.0)

pub spelled-named : (w : List ℕ) → proper w ≡ true → letters_of (name_filled w) ≡ w
spelled-named w e = before-zeros w (12 - length w) (proper_parts w e).0

-- what a name that was read says
pub name_is : (w : List ℕ) (n : Name) → name_of w ≡ Some n → (proper w ≡ true) × (name_filled w ≡ n) × (w ≡ letters_of n)
name_is w n q =
    let p = if_some (proper w) (name_filled w) n q in
    (p.0, p.1, sym (spelled-named w p.0) ∙ ap letters_of p.1)

name_same : (m n : Name) → m.letters ≡ n.letters → m ≡ n
name_same m n e = λ i. record { letters = e i }

-- a name that keeps its rule is the name of its own letters
pub name_back : (n : Name) → name_ok n ≡ true → (proper (letters_of n) ≡ true) × (name_of (letters_of n) ≡ Some n)
name_back n e =
    let p = and_parts (proper (letters_of n)) (bytes_eq n.letters (name_filled (letters_of n)).letters) e in
    let same = (bytes_eq-Decides n.letters (name_filled (letters_of n)).letters).0 p.1 in
    (p.0, cond-true (proper (letters_of n)) (Some (name_filled (letters_of n))) None p.0 ∙ ap Some (name_same (name_filled (letters_of n)) n (sym same)))

pub named_ok : (w : List ℕ) (n : Name) → name_of w ≡ Some n → name_ok n ≡ true
named_ok w n q =
    let p = name_is w n q in
    let e : letters_of n ≡ w = sym p.2 in
    let a : proper (letters_of n) ≡ true = ap proper e ∙ p.0 in
    let b : bytes_eq n.letters (name_filled (letters_of n)).letters ≡ true = (bytes_eq-Decides n.letters (name_filled (letters_of n)).letters).1 (ap (λ (m : Name). m.letters) (sym p.1 ∙ ap name_filled (sym e))) in
    both a b
  where
    both : {a b : Bool} → a ≡ true → b ≡ true → (a && b) ≡ true
    both p q = cc

-- ---- the first item that passes a test
place_found : {X : Type 0} (t : X → Bool) (xs : List X) (d : X) (k : ℕ) → position t xs ≡ Some k → (k < length xs) × (t (get_or xs k d) ≡ true)
place_found t xs d k q =
    let p = if_some (ltb (position_or_len t xs) (length xs)) (position_or_len t xs) k q in
    let h = ltb-true (position_or_len t xs) (length xs) p.0 in
    subst (λ n. (n < length xs) × (t (get_or xs n d) ≡ true)) p.1 (h, passes_at_first t xs d h)

-- where none of the items before passes
place_at : {X : Type 0} (t : X → Bool) (xs : List X) (d : X) (k : ℕ) → k < length xs → t (get_or xs k d) ≡ true → is_some (position t (take k xs)) ≡ false → position t xs ≡ Some k
place_at t xs d k h e n =
    let l : length (take k xs) ≡ k = length-take-le k xs (omega arith) in
    let m : k ≤ position_or_len t (take k xs) = grind (arith, l) in
    let p : position_or_len t xs ≡ k = position_or_len_is t xs k d (omega arith) (λ j i. sym (ap t (get_or-take k xs j d i)) ∙ fails_before_first t (take k xs) j d (omega arith)) (λ i. e) in
    cond-true (ltb (position_or_len t xs) (length xs)) _ _ (lt-ltb _ _ (omega (arith, p))) ∙ ap Some p

-- ---- the variable that a word names
pub variable_is : (d : PartialSheet) (w : List ℕ) (k : ℕ) → number_by d (name_of w) ≡ Some k → (w ≡ name_of_variable d.variables k) × (k < length d.variables)
variable_is d w k q = go (name_of w) refl q
  where
    go : (o : Option Name) → name_of w ≡ o → number_by d o ≡ Some k → (w ≡ name_of_variable d.variables k) × (k < length d.variables)
    go None e r = absurd (clash_none r)
    go (Some n) e r =
        let f = place_found (λ (v : Variable). bytes_eq v.name.letters n.letters) d.variables no_variable k r in
        let same = (bytes_eq-Decides (variable_at d.variables k).name.letters n.letters).0 f.1 in
        ((name_is w n e).2 ∙ ap (before 0) (sym same), f.0)

-- what a variable of a lawful sheet keeps
pub variable_parts : (vs : List Variable) (v : Variable) → variable_ok vs v ≡ true → (name_ok v.name ≡ true) × (declared vs v.name ≡ false)
variable_parts vs v e =
    let p = and_parts (name_ok v.name) _ e in
    let q = and_parts (not (declared vs v.name)) _ p.1 in
    (p.0, not-true (declared vs v.name) q.0)

pub variable_back : (d : PartialSheet) (k : ℕ) → VariablesOk d.variables → k < length d.variables → number_by d (name_of (name_of_variable d.variables k)) ≡ Some k
variable_back d k ok h =
    let v = variable_at d.variables k in
    let p = variable_parts (take k d.variables) v (ok k h) in
    let b = name_back v.name p.0 in
    ap (number_by d) b.1 ∙ place_at (λ (y : Variable). bytes_eq y.name.letters v.name.letters) d.variables no_variable k h ((bytes_eq-Decides v.name.letters v.name.letters).1 refl) p.1

pub name_plain : (vs : List Variable) (k : ℕ) → VariablesOk vs → k < length vs → (letters (name_of_variable vs k) ≡ true) × (length (name_of_variable vs k) ≤ 12)
name_plain vs k ok h = proper_parts (name_of_variable vs k) (name_back (variable_at vs k).name (variable_parts (take k vs) (variable_at vs k) (ok k h)).0).0
