-- What working out a number finds in a sheet, and what it leaves in the memory.
use Rattle.std.proofs.Common.{◌≡◌, ℕ, ◌<◌, ◌≤◌, Bool, true, false, List, length, get_or, set, ℤ, pos, vec_items, vec_len, Some, None, Option, sym, ap, ◌∙◌, subst, ⊎_elim, arith, w64, nat_abs, to_z, of_z}
use Rattle.std.proofs.lemmas.Int.{to_z-of_z}
use Rattle.std.proofs.lemmas.List.{get_or_read, get_or_read_under, get_or-set_same, get_or-set_other}
use Rattle.std.proofs.lemmas.Bool.{ltb-true, cases_eq}
use Rattle.sheet.specs.declared.kept.Sheet.{Sheet}
use Rattle.sheet.specs.declared.elements.Variable.{Variable}
use Rattle.sheet.specs.declared.elements.Operator.{Operator}
use Rattle.sheet.specs.declared.elements.Expression.{Expression}
use Rattle.sheet.specs.declared.elements.Expression.TheVariants.{Val, Last}
use Rattle.sheet.specs.Content.{no_variable, variable_at}
use Rattle.sheet.specs.Limits.{expression_ok}
use Rattle.value.specs.declared.end.End.{End}
use Rattle.value.specs.Values.{apply, map_both_known, known, knowns, within_range, valued}
use Rattle.value.specs.Evaluating.{partial_value, TotalWhenKnown, WithinBound}
use Rattle.value.specs.Memory.{Right}
use Rattle.value.proofs.Magnitudes.{abs_fits}
use Rattle.value.proofs.Numbers.{known_entry, known_within, known_total}

-- Expression i of the sheet was read, and found to be e.
module _
    (s : Sheet) (i : ℕ) (r e : Expression) (there : i < vec_len s.tables.expressions)
    (read : r ≡ get_or (vec_items s.tables.expressions) i r) (found : r ≡ e) where
  -- it stands at place i
  pub stands : get_or (vec_items s.tables.expressions) i Last ≡ e
  stands = sym (get_or_read_under (vec_items s.tables.expressions) i (vec_len s.tables.expressions) r Last read there s.tables.expressions.ok.0) ∙ found

  -- the place is inside
  inside : i < length (vec_items s.tables.expressions)
  inside = rw (← s.tables.expressions.ok.0) there

  -- it keeps the rules of a sheet
  pub lawful : expression_ok (length (vec_items s.tables.variables)) i e ≡ true
  lawful = sym (ap (expression_ok (length (vec_items s.tables.variables)) i) stands) ∙ s.operands i inside

  -- what is known of its number comes from what is known of its operands
  pub partial_value-entry : (values : List (Option ℤ)) (end : End)
      → partial_value s values end i
      ≡ known (valued (vec_items s.tables.variables) values) end (knowns (valued (vec_items s.tables.variables) values) end (vec_items s.tables.expressions)) e
  partial_value-entry values end =
      let es = vec_items s.tables.expressions in
      let f = valued (vec_items s.tables.variables) values in
      known_entry (length (vec_items s.tables.variables)) es s.operands f end i inside ∙ ap (known f end (knowns f end es)) stands

-- the value that was read for a variable, where it lies in its range, is what is known of the number of an expression that asks for it
pub variable_partial_value : (s : Sheet) (values : List (Option ℤ)) (end : End) (i : ℕ) (r : Expression) (x k : ℕ) (v : Variable) (o : Option ℤ) → i < vec_len s.tables.expressions
    → r ≡ get_or (vec_items s.tables.expressions) i r → r ≡ Val x → k ≡ x → v ≡ get_or (vec_items s.tables.variables) k v → o ≡ get_or values k None
    → within_range v o ≡ partial_value s values end i
variable_partial_value s values end i r x k v o there read is place known given =
    let vs = vec_items s.tables.variables in
    let l = ltb-true x (length vs) (lawful s i r (Val x) there read is) in
    let at : v ≡ variable_at vs x = get_or_read vs x v l (known ∙ ap (λ (j : ℕ). get_or vs j v) place) no_variable in
    ap (within_range v) (given ∙ ap (λ (j : ℕ). get_or values j None) place) ∙ ap (λ (y : Variable). within_range y (get_or values x None)) at
    ∙ sym (partial_value-entry s i r (Val x) there read is values end)

-- no number leaves ±1,000,000,000
pub partial_value_within : (s : Sheet) (values : List (Option ℤ)) (end : End) (i : ℕ) (r : Option ℤ) → r ≡ partial_value s values end i → WithinBound 1000000000 r
partial_value_within s values end i r p =
    subst (WithinBound 1000000000) (sym p) (known_within (vec_items s.tables.variables) (vec_items s.tables.expressions) s.small values end i)

-- so a known number fits 64 bits, and is kept as it is
pub partial_value_kept : (s : Sheet) (values : List (Option ℤ)) (end : End) (i : ℕ) (z : ℤ) → Some z ≡ partial_value s values end i → Some (to_z w64 (of_z w64 z)) ≡ partial_value s values end i
partial_value_kept s values end i z e =
    let h : nat_abs z ≤ 1000000000 = partial_value_within s values end i (Some z) e in
    ap (λ (y : ℤ). Some y) (to_z-of_z w64 z (abs_fits z (omega arith))) ∙ e

-- where all is known, so is the number
pub partial_value_total : (s : Sheet) (values : List (Option ℤ)) (end : End) (i : ℕ) (r : Option ℤ) → r ≡ partial_value s values end i → TotalWhenKnown s values end i r
partial_value_total s values end i r p ρ last hv he =
    p ∙ known_total (length (vec_items s.tables.variables)) (vec_items s.tables.expressions) s.operands (valued (vec_items s.tables.variables) values) end ρ last hv he i

-- an operator makes of two known numbers what is known of the pair
pub pair_known : (o : Operator) (x y r : ℤ) (u v : Option ℤ) → r ≡ apply o x y → Some x ≡ u → Some y ≡ v → Some r ≡ map_both_known (apply o) u v
pair_known o x y r u v p a b = ap (λ (z : ℤ). Some z) p ∙ ap (λ (w : Option ℤ). map_both_known (apply o) w (Some y)) a ∙ ap (map_both_known (apply o) u) b

-- what is kept stays right when the known number of expression i is put in its place
pub filled_right : (g : ℕ → Option ℤ) (seen : List Bool) (numbers : List ℤ) (i : ℕ) (z : ℤ) (k : ℕ) → Right g seen numbers k → i < length numbers → Some z ≡ g i
    → Right g (set seen i true) (set numbers i z) k
filled_right g seen numbers i z k all h e was =
    ⊎_elim
    (λ (p : k ≡ i). ap (λ (j : ℕ). Some (get_or (set numbers i z) j (pos 0))) p ∙ ap (λ (y : ℤ). Some y) (get_or-set_same numbers i z (pos 0) h) ∙ e ∙ ap g (sym p))
    (λ (p : k ≡ i → ⊥). ap (λ (y : ℤ). Some y) (get_or-set_other numbers i k z (pos 0) p) ∙ all (sym (get_or-set_other seen i k true false p) ∙ was))
    (cases_eq k i)
