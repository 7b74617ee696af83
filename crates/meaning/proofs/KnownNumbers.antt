-- What a sheet's rules give: statements that keep theirs, and numbers of expressions that are known.
use Rattle.std.proofs.Common.{◌≡◌, ℕ, ◌<◌, ◌≤◌, true, eqb, length, ℤ, Some, None, Option, sym, refl, ap, subst, ⊎_elim, arith}
use Rattle.std.proofs.lemmas.Bool.{eq-eqb, ne_eqb, cases_lt}
use Rattle.std.proofs.lemmas.List.{get_or_past}
use Rattle.sheet.specs.declared.elements.Statement.{Statement}
use Rattle.sheet.specs.declared.elements.Statement.TheVariants.{True}
use Rattle.sheet.specs.Limits.{Limits, statement_ok}
use Rattle.value.specs.declared.end.End.{End}
use Rattle.value.specs.declared.end.End.TheVariants.{Unknown, On, Last}
use Rattle.value.specs.Values.{bit, known_at, last_bit}
use Rattle.value.specs.Evaluating.{decided}
use Rattle.value.proofs.Numbers.{MatchesNumber, known_agrees, known_total}
use Rattle.meaning.specs.Intervals.{Setting, width, statement_at}
use Rattle.meaning.specs.Holds.{number_on}
use Rattle.meaning.specs.WellFormed.{IsEnded}

-- a number that is known
abbrev pub IsGiven : Option ℤ → Type 0
IsGiven None = ⊥
IsGiven (Some _) = Unit {0}

-- what is known at state k of the end j of a piece
abbrev pub EndSays : ℕ → ℕ → End → Type 0
EndSays k j Unknown = Unit {0}
EndSays k j On = k < j
EndSays k j Last = j ≡ k

end_bit : (k j : ℕ) (c : End) → EndSays k j c → MatchesNumber (last_bit c) (bit (eqb k j))
end_bit k j Unknown h = tt
end_bit k j On h = ap bit (sym (ne_eqb k j (λ e. omega arith)))
end_bit k j Last h = ap bit (sym (eq-eqb k j (sym h)))

end_decided : (k j : ℕ) (c : End) → IsEnded c → EndSays k j c → c ≡ decided (eqb k j)
end_decided k j Unknown s h = absurd s
end_decided k j On s h = ap decided (sym (ne_eqb k j (λ e. omega arith)))
end_decided k j Last s h = ap decided (sym (eq-eqb k j (sym h)))

agrees_at : (q : Option ℤ) (r v : ℤ) → q ≡ Some v → MatchesNumber q r → r ≡ v
agrees_at q r v e h = sym (subst (λ z. MatchesNumber z r) e h)

-- a number that agrees with what is known is it
pub given_is : (q : Option ℤ) (r : ℤ) → IsGiven q → MatchesNumber q r → q ≡ Some r
given_is None r g h = absurd g
given_is (Some v) r g h = ap {B = Option ℤ} Some h

module _ (S : Setting) (L : Limits S.sheet) where
  -- every statement keeps its rules, also one that is not there
  pub statement_with_ok : (s : ℕ) → statement_ok (width S) (length S.sheet.expressions) s (statement_at S s) ≡ true
  statement_with_ok s =
      ⊎_elim (λ (h : s < length S.sheet.statements). L.statements s h)
      (λ (h : length S.sheet.statements ≤ s). subst (λ (z : Statement). statement_ok (width S) (length S.sheet.expressions) s z ≡ true) (sym (get_or_past S.sheet.statements s True h)) refl)
      (cases_lt s (length S.sheet.statements))

  -- a known number of an expression is its number
  pub known_is : (f : ℕ → Option ℤ) (c : End) (e : ℕ) (v : ℤ) (σ : ℕ → ℕ → ℤ) (k j : ℕ) → known_at S.sheet.expressions f c e ≡ Some v → ((x : ℕ) → MatchesNumber (f x) (σ k x)) → EndSays k j c → number_on S σ k j e ≡ v
  known_is f c e v σ k j h hv he =
      agrees_at (known_at S.sheet.expressions f c e) (number_on S σ k j e) v h
      (known_agrees (width S) S.sheet.expressions L.expressions f c (σ k) (eqb k j) (λ x l. hv x) (end_bit k j c he) e)

  -- where every variable and the end are known, so is the number of every expression
  pub known_all : (f : ℕ → Option ℤ) (c : End) (e : ℕ) (σ : ℕ → ℕ → ℤ) (k j : ℕ) → ((x : ℕ) → x < width S → IsGiven (f x)) → ((x : ℕ) → x < width S → MatchesNumber (f x) (σ k x)) → IsEnded c → EndSays k j c → known_at S.sheet.expressions f c e ≡ Some (number_on S σ k j e)
  known_all f c e σ k j g hv s he =
      known_total (width S) S.sheet.expressions L.expressions f c (σ k) (eqb k j) (λ x l. given_is (f x) (σ k x) (g x l) (hv x l)) (end_decided k j c s he) e
