-- The numbers of expressions: what each comes from, how large they get, and that a known number is the number.
use Rattle.std.proofs.Common.{◌≡◌, ℕ, ◌<◌, ◌≤◌, Bool, true, false, ◌&&◌, ltb, List, [], length, get_or, ℤ, pos, Some, None, Option, sym, refl, ap, ◌∙◌, subst, ⊎_elim, arith}
use lib.Signed.{le_z}
use Rattle.std.proofs.lemmas.Int.{ints}
use Rattle.std.proofs.lemmas.Bool.{ltb-true, and_parts, cases_lt, cond_both}
use Rattle.sheet.specs.declared.elements.Variable.{Variable}
use Rattle.sheet.specs.declared.elements.Operator.{Operator}
use Rattle.sheet.specs.declared.elements.Expression.{Expression}
use Rattle.sheet.specs.declared.elements.Expression.TheVariants.{Num, Val, Pair, Not, Last}
use Rattle.sheet.specs.Content.{variable_at}
use Rattle.sheet.specs.Limits.{expression_ok, ExpressionsOk, SizesOk}
use Rattle.sheet.specs.Sizes.{range_size, size_of, size, sizes}
use Rattle.value.specs.declared.end.End.{End}
use Rattle.value.specs.declared.end.End.TheVariants.{Unknown, On, Last as AtLast}
use Rattle.value.specs.Values.{bit, apply, negation, expression_number, number_at, map_known, map_both_known, last_bit, known, knowns, known_at, within_range, valued}
use Rattle.value.specs.Evaluating.{decided, WithinBound}
use Rattle.value.proofs.Magnitudes.{apply_small, bit_small}
use Rattle.value.proofs.EntryByEntry.{Alike, none, alike_at, tables_alike, Looks, table_entry, table_past}

-- the operands of a pair are lower
pub pair_lower : (n k a b : ℕ) (o : Operator) → expression_ok n k (Pair o a b) ≡ true → (a < k) × (b < k)
pair_lower n k a b o h = let p = and_parts (ltb a k) (ltb b k) h in (ltb-true a k p.0, ltb-true b k p.1)

-- a known number comes from lower operands alone
pub known_looks : (n : ℕ) (f : ℕ → Option ℤ) (end : End) → Looks n (Some (pos 0)) (known f end)
known_looks n f end (Num c) k xs ys h s = refl
known_looks n f end (Val x) k xs ys h s = refl
known_looks n f end (Pair o a b) k xs ys h s = let l = pair_lower n k a b o h in let p = s a l.0 in let q = s b l.1 in cc
known_looks n f end (Not a) k xs ys h s = ap (map_known negation) (s a (ltb-true a k h))
known_looks n f end Last k xs ys h s = refl

-- so does a number
pub number_looks : (n : ℕ) (ρ : ℕ → ℤ) (last : Bool) → Looks n (pos 0) (expression_number ρ last)
number_looks n ρ last (Num c) k xs ys h s = refl
number_looks n ρ last (Val x) k xs ys h s = refl
number_looks n ρ last (Pair o a b) k xs ys h s = let l = pair_lower n k a b o h in let p = s a l.0 in let q = s b l.1 in cc
number_looks n ρ last (Not a) k xs ys h s = ap negation (s a (ltb-true a k h))
number_looks n ρ last Last k xs ys h s = refl

-- what is known of an expression comes from what is known of its operands
pub known_entry : (n : ℕ) (es : List Expression) → ExpressionsOk n es → (f : ℕ → Option ℤ) (end : End) (i : ℕ) → i < length es
    → known_at es f end i ≡ known f end (knowns f end es) (get_or es i Last)
known_entry n es ok f end i h = table_entry n (known f end) (Some (pos 0)) (known_looks n f end) es ok i h

-- a value in a range is no further from 0 than the range reaches
pub ranged_small : (v : Variable) (o : Option ℤ) → WithinBound (range_size v) (within_range v o)
ranged_small v None = tt
ranged_small v (Some z) =
    cond_both (le_z v.low z && le_z z v.high) (Some z) None (WithinBound (range_size v))
    (λ e. let p = and_parts (le_z v.low z) (le_z z v.high) e in let q = p.0 in let r = p.1 in grind (arith, ints)) (λ e. tt)

-- a `not` is 0 or 1
once_small : (o : Option ℤ) → WithinBound 1 (map_known negation o)
once_small None = tt
once_small (Some x) = bit_small _

-- a pair is no further from 0 than its size
twice_small : (o : Operator) (x y : Option ℤ) (m n : ℕ) → WithinBound m x → WithinBound n y → WithinBound (size_of o m n) (map_both_known (apply o) x y)
twice_small o None y m n p q = tt
twice_small o (Some x) None m n p q = tt
twice_small o (Some x) (Some y) m n p q = apply_small o x y m n p q

-- `last` is 0 or 1
last_small : (end : End) → WithinBound 1 (last_bit end)
last_small Unknown = tt
last_small On = omega arith
last_small AtLast = omega arith

-- a number that is known is at most n away from 0
abbrev Sized : Option ℤ → ℕ → Type 0
Sized o n = WithinBound n o

-- a known number is no further from 0 than its size, if those before it are not
known_sized : (vs : List Variable) (values : List (Option ℤ)) (end : End) (e : Expression) (os : List (Option ℤ)) (ns : List ℕ) → Alike Sized os ns
    → Sized (known (valued vs values) end os e) (size vs ns e)
known_sized vs values end (Num c) os ns h = omega arith
known_sized vs values end (Val x) os ns h = ranged_small (variable_at vs x) (get_or values x None)
known_sized vs values end (Pair o a b) os ns h =
    twice_small o (get_or os a (Some (pos 0))) (get_or os b (Some (pos 0))) (get_or ns a 0) (get_or ns b 0)
    (alike_at Sized (Some (pos 0)) 0 (omega arith) h a) (alike_at Sized (Some (pos 0)) 0 (omega arith) h b)
known_sized vs values end (Not a) os ns h = once_small (get_or os a (Some (pos 0)))
known_sized vs values end Last os ns h = last_small end

-- what is within m is within more
wider : (o : Option ℤ) (m n : ℕ) → m ≤ n → WithinBound m o → WithinBound n o
wider None m n h p = tt
wider (Some z) m n h p = omega arith

-- no number leaves ±1,000,000,000
pub known_within : (vs : List Variable) (es : List Expression) → SizesOk vs es → (values : List (Option ℤ)) (end : End) (i : ℕ)
    → WithinBound 1000000000 (known_at es (valued vs values) end i)
known_within vs es small values end i =
    let o = known_at es (valued vs values) end i in
    let table = tables_alike Sized (known (valued vs values) end) (size vs) es [] [] (λ k h. known_sized vs values end (get_or es k Last)) none in
    let s : Sized o (get_or (sizes vs es) i 0) = alike_at Sized (Some (pos 0)) 0 (omega arith) table i in
    ⊎_elim (λ (h : i < length es). wider o (get_or (sizes vs es) i 0) 1000000000 (small i h) s)
    (λ (h : length es ≤ i). subst (WithinBound 1000000000) (sym (table_past (known (valued vs values) end) (Some (pos 0)) es i h)) (omega arith))
    (cases_lt i (length es))

-- What holds between a known number and the number at variables and `last`, and is kept by every operator, holds of every expression.
module _
    (R : Option ℤ → ℤ → Type 0) (given : (z : ℤ) → R (Some z) z)
    (one : (g : ℤ → ℤ) (o : Option ℤ) (z : ℤ) → R o z → R (map_known g o) (g z))
    (two : (g : ℤ → ℤ → ℤ) (o p : Option ℤ) (y z : ℤ) → R o y → R p z → R (map_both_known g o p) (g y z))
    (n : ℕ) (f : ℕ → Option ℤ) (end : End) (ρ : ℕ → ℤ) (last : Bool)
    (variables : (x : ℕ) → x < n → R (f x) (ρ x)) (ending : R (last_bit end) (bit last)) where
  -- it holds of an expression if it holds of those before it
  related_step : (k : ℕ) (e : Expression) → expression_ok n k e ≡ true → (os : List (Option ℤ)) (zs : List ℤ) → Alike R os zs → R (known f end os e) (expression_number ρ last zs e)
  related_step k (Num c) ok os zs h = given c
  related_step k (Val x) ok os zs h = variables x (ltb-true x n ok)
  related_step k (Pair o a b) ok os zs h =
      two (apply o) (get_or os a (Some (pos 0))) (get_or os b (Some (pos 0))) (get_or zs a (pos 0)) (get_or zs b (pos 0))
      (alike_at R (Some (pos 0)) (pos 0) (given (pos 0)) h a) (alike_at R (Some (pos 0)) (pos 0) (given (pos 0)) h b)
  related_step k (Not a) ok os zs h = one negation (get_or os a (Some (pos 0))) (get_or zs a (pos 0)) (alike_at R (Some (pos 0)) (pos 0) (given (pos 0)) h a)
  related_step k Last ok os zs h = ending

  -- so it holds of each
  pub known_related : (es : List Expression) → ExpressionsOk n es → (i : ℕ) → R (known_at es f end i) (number_at es ρ last i)
  known_related es ok i =
      alike_at R (Some (pos 0)) (pos 0) (given (pos 0)) (tables_alike R (known f end) (expression_number ρ last) es [] [] (λ k h. related_step k (get_or es k Last) (ok k h)) none) i

-- what is known of a number agrees with it
abbrev pub MatchesNumber : Option ℤ → ℤ → Type 0
MatchesNumber None z = Unit {0}
MatchesNumber (Some v) z = v ≡ z

-- agreement is kept by a function of one number
agrees_one : (g : ℤ → ℤ) (o : Option ℤ) (z : ℤ) → MatchesNumber o z → MatchesNumber (map_known g o) (g z)
agrees_one g None z h = tt
agrees_one g (Some v) z h = ap g h

-- and of two
agrees_two : (g : ℤ → ℤ → ℤ) (o p : Option ℤ) (y z : ℤ) → MatchesNumber o y → MatchesNumber p z → MatchesNumber (map_both_known g o p) (g y z)
agrees_two g None p y z h k = tt
agrees_two g (Some u) None y z h k = tt
agrees_two g (Some u) (Some v) y z h k = cc

-- a known number is the number, whatever the unknown variables are
pub known_agrees : (n : ℕ) (es : List Expression) → ExpressionsOk n es → (f : ℕ → Option ℤ) (end : End) (ρ : ℕ → ℤ) (last : Bool)
    → ((x : ℕ) → x < n → MatchesNumber (f x) (ρ x)) → MatchesNumber (last_bit end) (bit last) → (i : ℕ) → MatchesNumber (known_at es f end i) (number_at es ρ last i)
known_agrees n es ok f end ρ last hv he i = known_related MatchesNumber (λ z. refl) agrees_one agrees_two n f end ρ last hv he es ok i

-- a number is known
abbrev Told : Option ℤ → ℤ → Type 0
Told o z = o ≡ Some z

-- `last` is known where the end is
last_told : (last : Bool) → last_bit (decided last) ≡ Some (bit last)
last_told true = refl
last_told false = refl

-- where all variables are known and the end is, so are all numbers
pub known_total : (n : ℕ) (es : List Expression) → ExpressionsOk n es → (f : ℕ → Option ℤ) (end : End) (ρ : ℕ → ℤ) (last : Bool)
    → ((x : ℕ) → x < n → f x ≡ Some (ρ x)) → end ≡ decided last → (i : ℕ) → known_at es f end i ≡ Some (number_at es ρ last i)
known_total n es ok f end ρ last hv he i =
    known_related Told (λ z. refl) (λ g o z h. ap (map_known g) h) (λ g o p y z h k. cc) n f end ρ last hv (ap last_bit he ∙ last_told last) es ok i
