-- What a line says behind its key, as faults tried one after another. Assumes nothing.
use Rattle.std.proofs.Common.{◌≡◌, ℕ, Bool, true, false, cond, not, ◌||◌, ltb, leb, List, [], ◌∷◌, length, pos, is_some, Some, None, Ok, Err, Option, Result, refl, ap, ◌∙◌, arith}
use lib.Signed.{le_z}
use Rattle.std.specs.Option.{ok_or}
use Rattle.std.proofs.lemmas.Bool.Decides.{nat_tests}
use Rattle.text.specs.Decimals.{natural_of, integer_of}
use Rattle.sheet.specs.declared.elements.Expression.{Expression}
use Rattle.sheet.specs.declared.elements.Expression.TheVariants.{Num}
use Rattle.sheet.specs.declared.elements.Statement.{Statement}
use Rattle.sheet.specs.declared.elements.Name.{Name}
use Rattle.sheet.specs.Sizes.{size}
use Rattle.sheet.specs.Limits.{proper, name_filled, name_of, declared}
use Rattle.lines.specs.declared.items.Fault.{Fault}
use Rattle.sheet.specs.declared.item.Item.{Item}
use Rattle.lines.specs.declared.items.Keyword.{Keyword}
use Rattle.lines.specs.declared.items.Role.{Role}
use Rattle.lines.specs.Operations.{Roles}
use Rattle.sheet.specs.PartialSheet.{PartialSheet}
use Rattle.lines.specs.Operations.{expression_roles, statement_roles, expression_with, statement_with, expression_named, statement_named}
use Rattle.lines.specs.Lines as reading
use Rattle.lines.specs.Lines.{then, number_by, operand_number, resolved, check_exists, operands, sized, made, word_in, is_num, variable_of, expression_of, statement_of, run_of}
use Rattle.lines.specs.WordMeanings.{Form, num, expression, statement, expression_if, statement_if, variable_form, expression_form, statement_form, run_form, Line, nothing, fresh, meaning_of_role, operands_by, nth, word_at}
use Rattle.lines.specs.Faults.{natural_in, signed_in, misnumbered, misnamed, misplaced, operand_in, operands_in, large, applies_to}
use Rattle.lines.proofs.FaultTries.{tried, step, steps, twice, some_step, test_step}
use Rattle.lines.proofs.FaultOrder.{behind}

-- ---- operands: each step fails where its fault fits, and else gives the operand's number

-- the number that an operand's word writes; 0 where it has to write none
abbrev written_in : Option Role → List ℕ → ℕ
written_in None w = 0
written_in (Some Role.Variable) w = 0
written_in (Some Role.Expression) w = natural_in w
written_in (Some Role.Statement) w = natural_in w

numeral-step : (at : ℕ) (r : Option Role) (v w : List ℕ) → operand_number at r w ≡ cond (misnumbered v w (meaning_of_role r)) (Err (Fault.Number at)) (Ok (written_in r w))
numeral-step at None v w = refl
numeral-step at (Some Role.Variable) v w = refl
numeral-step at (Some Role.Expression) v w = some_step (natural_of 199 w) 0 (Fault.Number at)
numeral-step at (Some Role.Statement) v w = some_step (natural_of 199 w) 0 (Fault.Number at)

resolved_step : (d : PartialSheet) (at : ℕ) (r : Option Role) (w : List ℕ) → resolved d at r w (written_in r w) ≡ cond (misnamed d w (meaning_of_role r)) (Err (Fault.Name at)) (Ok (operand_in d r w))
resolved_step d at None w = refl
resolved_step d at (Some Role.Variable) w = some_step (number_by d (name_of w)) 0 (Fault.Name at)
resolved_step d at (Some Role.Expression) w = refl
resolved_step d at (Some Role.Statement) w = refl

there-step : (d : PartialSheet) (at : ℕ) (r : Option Role) (w : List ℕ) → check_exists d at r (operand_in d r w) ≡ cond (misplaced d w (meaning_of_role r)) (Err (Fault.Operand at)) (Ok (operand_in d r w))
there-step d at None w = refl
there-step d at (Some Role.Variable) w = refl
there-step d at (Some Role.Expression) w = test_step (ltb (natural_in w) (length d.expressions)) (natural_in w) (Fault.Operand at)
there-step d at (Some Role.Statement) w = test_step (ltb (natural_in w) (length d.statements)) (natural_in w) (Fault.Operand at)

-- the faults of operands with the roles r
abbrev operand_faulty : PartialSheet → Roles → Line → Fault → Bool
operand_faulty d r x Fault.Long = false
operand_faulty d r x Fault.Key = false
operand_faulty d r x Fault.Many = false
operand_faulty d r x Fault.Form = false
operand_faulty d r x (Fault.Number w) = misnumbered (word_at x 2) (word_at x w) (nth nothing (operands_by r) w)
operand_faulty d r x (Fault.Name w) = misnamed d (word_at x w) (nth nothing (operands_by r) w)
operand_faulty d r x (Fault.Operand w) = misplaced d (word_at x w) (nth nothing (operands_by r) w)
operand_faulty d r x Fault.Size = false

abbrev nine : List Fault
nine =
    Fault.Number 2 ∷ Fault.Number 3 ∷ Fault.Number 4 ∷ Fault.Name 2 ∷ Fault.Name 3 ∷ Fault.Name 4
    ∷ Fault.Operand 2 ∷ Fault.Operand 3 ∷ Fault.Operand 4 ∷ []

operands-tried : (d : PartialSheet) (r : Roles) (x : Line) → operands d r (word_at x 2) (word_at x 3) (word_at x 4) ≡ tried (operand_faulty d r x) nine (operands_in d r x)
operands-tried d r x =
    let a = word_at x 2 in
    let b = word_at x 3 in
    let c = word_at x 4 in
    step _ _ _ (numeral-step 2 r.first a a) (step _ _ _ (numeral-step 3 r.second a b) (step _ _ _ (numeral-step 4 r.third a c)
    (step _ _ _ (resolved_step d 2 r.first a) (step _ _ _ (resolved_step d 3 r.second b) (step _ _ _ (resolved_step d 4 r.third c)
    (step _ _ _ (there-step d 2 r.first a) (step _ _ _ (there-step d 3 r.second b) (step _ _ _ (there-step d 4 r.third c) refl))))))))

-- ---- lines

-- r comes of trying the faults behind the key of the line x
abbrev pub Found : PartialSheet → Line → Result Item Fault → Type 0
Found d x r = (v : Item) × (r ≡ tried (applies_to d x) behind v)

module _ (d : PartialSheet) (n : ℕ) (k : Option Keyword) where
  abbrev pub line : List (List ℕ) → Form → Line
  line ws x = record { bytes = n; key = k; words = ws; form = x }

  -- the size of an expression is at most 1,000,000,000
  sized-step : (e : Expression) → sized d e ≡ cond (large d e) (Err Fault.Size) (Ok (Item.Expression e (size d.variables d.sizes e)))
  sized-step e = go (size d.variables d.sizes e) 1000000000
    where
      go : (s m : ℕ) → cond (leb s m) (Ok (Item.Expression e s)) (Err Fault.Size) ≡ cond (ltb m s) (Err Fault.Size) (Ok (Item.Expression e s))
      go s m = grind (arith, nat_tests)

  -- an operation that is known or not
  expression_found : (ws : List (List ℕ)) (o : Option Expression) → Found d (line ws (expression_if o)) (then (made expression_roles expression_with d o (word_in ws 1) (word_in ws 2) (word_in ws 3)) (sized d))
  expression_found ws None = (Item.Run 0, refl)
  expression_found ws (Some e) =
      let x = line ws (expression e) in
      let o = operands_in d (expression_roles e) x in
      let f = expression_with e o in (
        Item.Expression f (size d.variables d.sizes f),
        ap (λ z. then (then z (λ o. Ok (expression_with e o))) (sized d)) (operands-tried d (expression_roles e) x)
            ∙ ap (λ z. then z (sized d)) (steps (applies_to d x) nine [] o f (λ o. Ok (expression_with e o)) refl)
            ∙ steps (applies_to d x) nine (Fault.Size ∷ []) f _ (sized d) (sized-step f),
      )

  statement_found : (ws : List (List ℕ)) (o : Option Statement) → Found d (line ws (statement_if o)) (then (made statement_roles statement_with d o (word_in ws 1) (word_in ws 2) (word_in ws 3)) (λ s. Ok (Item.Statement s)))
  statement_found ws None = (Item.Run 0, refl)
  statement_found ws (Some s) =
      let x = line ws (statement s) in
      let o = operands_in d (statement_roles s) x in
      let t = statement_with s o in (
        Item.Statement t,
        ap (λ z. then (then z (λ o. Ok (statement_with s o))) (λ t. Ok (Item.Statement t))) (operands-tried d (statement_roles s) x)
            ∙ ap (λ z. then z (λ t. Ok (Item.Statement t))) (steps (applies_to d x) nine [] o t (λ o. Ok (statement_with s o)) refl)
            ∙ steps (applies_to d x) nine [] t _ (λ t. Ok (Item.Statement t)) refl,
      )

  -- one form or the other
  either_found : (ws : List (List ℕ)) (b : Bool) (x y : Form) (r s : Result Item Fault) → Found d (line ws x) r → Found d (line ws y) s → Found d (line ws (cond b x y)) (cond b r s)
  either_found ws true x y r s f g = f
  either_found ws false x y r s f g = g

  -- `num C`
  constant_found : (ws : List (List ℕ)) → Found d (line ws num) (reading.constant d (word_in ws 1))
  constant_found ws = (_, step _ _ _ (some_step (integer_of 1000000 (word_in ws 1)) _ (Fault.Number 2)) (sized-step (Num (signed_in (word_in ws 1)))))

  pub expression_line_tried : (ws : List (List ℕ)) → Found d (line ws (expression_form ws)) (expression_of d ws)
  expression_line_tried ws = either_found ws (is_num ws) _ _ _ _ (constant_found ws) (expression_found ws (expression_named ws))

  pub statement_line_tried : (ws : List (List ℕ)) → Found d (line ws (statement_form ws)) (statement_of d ws)
  statement_line_tried ws = statement_found ws (statement_named ws)

  -- a name that is not declared yet
  fresh_step : (w : List ℕ) → reading.fresh d w ≡ cond (misnamed d w fresh) (Err (Fault.Name 1)) (Ok (name_filled w))
  fresh_step w = go (proper w)
    where
      go : (b : Bool) → let o : Option Name = cond b (Some (name_filled w)) None in
          then (ok_or o (Fault.Name 1)) (λ n. cond (declared d.variables n) (Err (Fault.Name 1)) (Ok n))
          ≡ cond (not (is_some o) || is_some (number_by d o)) (Err (Fault.Name 1)) (Ok (name_filled w))
      go true = refl
      go false = refl

  pub variable_line_tried : (ws : List (List ℕ)) → Found d (line ws (variable_form ws)) (variable_of d ws)
  variable_line_tried [] = (Item.Run 0, refl)
  variable_line_tried (n ∷ []) = (Item.Run 0, refl)
  variable_line_tried (n ∷ a ∷ []) = (Item.Run 0, refl)
  variable_line_tried (n ∷ a ∷ b ∷ []) = (
    Item.Variable (record { name = name_filled n; low = signed_in a; high = signed_in b }),
    step _ _ _ (some_step (integer_of 1000000 a) (pos 0) (Fault.Number 2))
        (step _ _ _ (some_step (integer_of 1000000 b) (pos 0) (Fault.Number 3))
        (step _ _ _ (test_step (le_z (signed_in a) (signed_in b)) (signed_in b) (Fault.Number 3)) (step _ _ _ (fresh_step n) refl))
        ∙ twice (not (is_some (integer_of 1000000 b))) (not (le_z (signed_in a) (signed_in b))) (Fault.Number 3) _),
  )
  variable_line_tried (n ∷ a ∷ b ∷ c ∷ ws) = (Item.Run 0, refl)

  pub run_line_tried : (ws : List (List ℕ)) → Found d (line ws (run_form ws)) (run_of d ws)
  run_line_tried [] = (Item.Run 0, refl)
  run_line_tried (w ∷ []) = (Item.Run (natural_in w), step _ _ _ (numeral-step 1 (Some Role.Statement) [] w) (step _ _ _ (there-step d 1 (Some Role.Statement) w) refl))
  run_line_tried (w ∷ x ∷ ws) = (Item.Run 0, refl)
