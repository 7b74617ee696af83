-- Operands: what their words say, both ways. Assumes nothing.
use Rattle.std.proofs.Common.{◌≡◌, ℕ, ◌<◌, ◌≤◌, Bool, true, cond, eqb, ltb, List, [], length, None, Some, Ok, Err, Option, decimal, sym, refl, ap, ◌∙◌, subst, arith}
use Rattle.std.specs.Option.{ok_or}
use Rattle.std.proofs.lemmas.Bool.{ltb-true, lt-ltb, eqb-true, cond-true}
use Rattle.text.specs.Decimals.{natural_of}
use Rattle.text.proofs.Numbers.{natural_is, natural_some}
use Rattle.sheet.specs.declared.elements.Variable.{Variable}
use Rattle.sheet.specs.SheetText.{name_of_variable}
use Rattle.sheet.specs.Limits.{name_of, VariablesOk}
use Rattle.lines.specs.declared.items.Fault.{Fault}
use Rattle.lines.specs.declared.items.Role.{Role}
use Rattle.lines.specs.Operations.{Roles}
use Rattle.lines.specs.Operations.{Operands}
use Rattle.sheet.specs.PartialSheet.{PartialSheet}
use Rattle.lines.specs.Lines.{operand_number, number_by, resolved, check_exists, operands}
use Rattle.load.proofs.UpToFirstFault.{same_ok, then_ok, or_ok, if_ok, then_is}
use Rattle.load.proofs.WordsAndLines.{Plain, plain_decimal, plain_letters}
use Rattle.load.proofs.NameLetters.{variable_is, variable_back, name_plain}

-- what is written of an operand
abbrev pub operand_word : List Variable → Option Role → ℕ → List ℕ
operand_word vs None k = []
operand_word vs (Some Role.Variable) k = name_of_variable vs k
operand_word vs (Some Role.Expression) k = decimal k
operand_word vs (Some Role.Statement) k = decimal k

-- an operand that is there, where there are n variables, m expressions and p statements
abbrev pub operand_ok : ℕ → ℕ → ℕ → Option Role → ℕ → Bool
operand_ok n m p None k = eqb k 0
operand_ok n m p (Some Role.Variable) k = ltb k n
operand_ok n m p (Some Role.Expression) k = ltb k m
operand_ok n m p (Some Role.Statement) k = ltb k p

abbrev pub ok_in : PartialSheet → Option Role → ℕ → Bool
ok_in d r k = operand_ok (length d.variables) (length d.expressions) (length d.statements) r k

-- ---- what was read
-- the word w was read as operand k; that of an absent one does not matter
abbrev pub Says : PartialSheet → Option Role → List ℕ → ℕ → Type 0
Says d None w k = k ≡ 0
Says d (Some Role.Variable) w k = (w ≡ operand_word d.variables (Some Role.Variable) k) × (ok_in d (Some Role.Variable) k ≡ true)
Says d (Some Role.Expression) w k = (w ≡ operand_word d.variables (Some Role.Expression) k) × (ok_in d (Some Role.Expression) k ≡ true)
Says d (Some Role.Statement) w k = (w ≡ operand_word d.variables (Some Role.Statement) k) × (ok_in d (Some Role.Statement) k ≡ true)

numbered : (d : PartialSheet) (at : ℕ) (w : List ℕ) (i k n : ℕ) → ok_or (natural_of 199 w) (Fault.Number at) ≡ Ok i → cond (ltb i n) (Ok i) (Err (Fault.Operand at)) ≡ Ok k → (w ≡ decimal k) × (ltb k n ≡ true)
numbered d at w i k n p q =
    let t = natural_is 199 w i (or_ok (natural_of 199 w) (Fault.Number at) i p) in
    let l = if_ok (ltb i n) (Ok i) (Fault.Operand at) k q in
    let same : i ≡ k = same_ok l.1 in
    (t.0 ∙ ap decimal same, ap (λ x. ltb x n) (sym same) ∙ l.0)

pub operand_says : (d : PartialSheet) (at : ℕ) (r : Option Role) (w : List ℕ) (i j k : ℕ) → operand_number at r w ≡ Ok i → resolved d at r w i ≡ Ok j → check_exists d at r j ≡ Ok k → Says d r w k
operand_says d at None w i j k p q s = sym (same_ok s) ∙ sym (same_ok q) ∙ sym (same_ok p)
operand_says d at (Some Role.Variable) w i j k p q s =
    let f = variable_is d w j (or_ok (number_by d (name_of w)) (Fault.Name at) j q) in
    let same : j ≡ k = same_ok s in
    (f.0 ∙ ap (name_of_variable d.variables) same, lt-ltb k (length d.variables) (omega (arith, f.1)))
operand_says d at (Some Role.Expression) w i j k p q s =
    let same : i ≡ j = same_ok q in
    numbered d at w j k (length d.expressions) (p ∙ ap Ok same) s
operand_says d at (Some Role.Statement) w i j k p q s =
    let same : i ≡ j = same_ok q in
    numbered d at w j k (length d.statements) (p ∙ ap Ok same) s

-- all three
pub record AllWordsSay (d : PartialSheet) (r : Roles) (a b c : List ℕ) (o : Operands) : Type 0 where
  pub first : Says d r.first a o.first
  pub second : Says d r.second b o.second
  pub third : Says d r.third c o.third

pub operands_say : (d : PartialSheet) (r : Roles) (a b c : List ℕ) (o : Operands) → operands d r a b c ≡ Ok o → AllWordsSay d r a b c o
operands_say d r a b c o q =
    let n1 = then_ok (operand_number 2 r.first a) _ o q in
    let n2 = then_ok (operand_number 3 r.second b) _ o n1.2 in
    let n3 = then_ok (operand_number 4 r.third c) _ o n2.2 in
    let v1 = then_ok (resolved d 2 r.first a n1.0) _ o n3.2 in
    let v2 = then_ok (resolved d 3 r.second b n2.0) _ o v1.2 in
    let v3 = then_ok (resolved d 4 r.third c n3.0) _ o v2.2 in
    let t1 = then_ok (check_exists d 2 r.first v1.0) _ o v3.2 in
    let t2 = then_ok (check_exists d 3 r.second v2.0) _ o t1.2 in
    let t3 = then_ok (check_exists d 4 r.third v3.0) _ o t2.2 in
    let is : record { first = t1.0; second = t2.0; third = t3.0 } ≡ o = same_ok t3.2 in
    subst (AllWordsSay d r a b c) is (record {
      first = operand_says d 2 r.first a n1.0 v1.0 t1.0 n1.1 v1.1 t1.1;
      second = operand_says d 3 r.second b n2.0 v2.0 t2.0 n2.1 v2.1 t2.1;
      third = operand_says d 4 r.third c n3.0 v3.0 t3.0 n3.1 v3.1 t3.1;
    })

-- the operand is there
pub says_ok : (d : PartialSheet) (r : Option Role) (w : List ℕ) (k : ℕ) → Says d r w k → ok_in d r k ≡ true
says_ok d None w k s = ap (λ x. eqb x 0) s
says_ok d (Some Role.Variable) w k s = s.1
says_ok d (Some Role.Expression) w k s = s.1
says_ok d (Some Role.Statement) w k s = s.1

-- ---- what is written is read
-- what the tables keep, so that an operand is read as it was written
pub record SteadyWords (d : PartialSheet) : Type 0 where
  pub names : VariablesOk d.variables
  pub expressions : length d.expressions ≤ 200
  pub statements : length d.statements ≤ 200

-- the number of an operand as the first step reads it: names come later
abbrev early : Option Role → ℕ → ℕ
early None k = 0
early (Some Role.Variable) k = 0
early (Some Role.Expression) k = k
early (Some Role.Statement) k = k

read_decimal : (at k : ℕ) → k < 200 → ok_or (natural_of 199 (decimal k)) (Fault.Number at) ≡ Ok k
read_decimal at k h = ap (λ o. ok_or o (Fault.Number at)) (natural_some 199 (decimal k) k (omega arith) (omega arith) refl)

first_step : (d : PartialSheet) (at : ℕ) (r : Option Role) (k : ℕ) → SteadyWords d → ok_in d r k ≡ true → operand_number at r (operand_word d.variables r k) ≡ Ok (early r k)
first_step d at None k s e = refl
first_step d at (Some Role.Variable) k s e = refl
first_step d at (Some Role.Expression) k s e = read_decimal at k (omega (arith, ltb-true k (length d.expressions) e, s.expressions))
first_step d at (Some Role.Statement) k s e = read_decimal at k (omega (arith, ltb-true k (length d.statements) e, s.statements))

second_step : (d : PartialSheet) (at : ℕ) (r : Option Role) (k : ℕ) → SteadyWords d → ok_in d r k ≡ true → resolved d at r (operand_word d.variables r k) (early r k) ≡ Ok k
second_step d at None k s e = ap Ok (sym (eqb-true k 0 e))
second_step d at (Some Role.Variable) k s e = ap (λ o. ok_or o (Fault.Name at)) (variable_back d k s.names (ltb-true k (length d.variables) e))
second_step d at (Some Role.Expression) k s e = refl
second_step d at (Some Role.Statement) k s e = refl

third_step : (d : PartialSheet) (at : ℕ) (r : Option Role) (k : ℕ) → ok_in d r k ≡ true → check_exists d at r k ≡ Ok k
third_step d at None k e = refl
third_step d at (Some Role.Variable) k e = refl
third_step d at (Some Role.Expression) k e = cond-true (ltb k (length d.expressions)) (Ok k) (Err (Fault.Operand at)) e
third_step d at (Some Role.Statement) k e = cond-true (ltb k (length d.statements)) (Ok k) (Err (Fault.Operand at)) e

pub operands-read : (d : PartialSheet) (r s t : Option Role) (i j k : ℕ) → SteadyWords d → ok_in d r i ≡ true → ok_in d s j ≡ true → ok_in d t k ≡ true
    → operands d (record { first = r; second = s; third = t }) (operand_word d.variables r i) (operand_word d.variables s j) (operand_word d.variables t k) ≡ Ok (record { first = i; second = j; third = k })
operands-read d r s t i j k ok p q u =
    then_is _ _ _ (first_step d 2 r i ok p) ∙ then_is _ _ _ (first_step d 3 s j ok q) ∙ then_is _ _ _ (first_step d 4 t k ok u)
    ∙ then_is _ _ _ (second_step d 2 r i ok p) ∙ then_is _ _ _ (second_step d 3 s j ok q) ∙ then_is _ _ _ (second_step d 4 t k ok u)
    ∙ then_is _ _ _ (third_step d 2 r i p) ∙ then_is _ _ _ (third_step d 3 s j q) ∙ then_is _ _ _ (third_step d 4 t k u)

pub operand_plain : (d : PartialSheet) (r : Option Role) (k : ℕ) → SteadyWords d → ok_in d r k ≡ true → Plain (operand_word d.variables r k)
operand_plain d None k s e = record { space = refl; end = refl; short = omega arith }
operand_plain d (Some Role.Variable) k s e = let p = name_plain d.variables k s.names (ltb-true k (length d.variables) e) in plain_letters (name_of_variable d.variables k) p.0 p.1
operand_plain d (Some Role.Expression) k s e = plain_decimal k (omega (arith, ltb-true k (length d.expressions) e, s.expressions))
operand_plain d (Some Role.Statement) k s e = plain_decimal k (omega (arith, ltb-true k (length d.statements) e, s.statements))
