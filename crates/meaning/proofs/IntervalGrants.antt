-- What an interval grants at state k, where places are the states in which spans end; and that it is closed under the rules.
use Rattle.std.proofs.Common.{◌≡◌, ℕ, zero, suc, ◌+◌, ◌<◌, ◌≤◌, true, ◌≢◌, ℤ, pos, Some, None, Option, inl, sym, refl, ◌∙◌, subst, arith}
use native.Mathlib.Decide.{ℕ_discrete}
use Rattle.sheet.specs.declared.elements.Statement.{Statement}
use Rattle.sheet.specs.declared.elements.Statement.TheVariants.{Len, For}
use Rattle.sheet.specs.Limits.{Limits}
use Rattle.value.specs.declared.end.End.TheVariants.{On, Last}
use Rattle.value.proofs.Numbers.{MatchesNumber}
use Rattle.meaning.specs.declared.duties.Duty.{Duty}
use Rattle.meaning.specs.declared.duties.Opening.{Opening}
use Rattle.meaning.specs.Intervals.{Setting, statement_at, value_fits}
use Rattle.meaning.specs.Holds.{number_on}
use Rattle.meaning.proofs.Tests.{truth_yes, truth_no}
use Rattle.meaning.proofs.Owing.{Owed, true_owed, empty_owed, more_owed, is_owed, and_owed, then_owed, else_owed, next_owed, always_owed, halt_owed, len_owed, len_left, gets_owed, gets_value, chop_owed, for_owed, for_below, for_done, for_round, while_done, while_round, request_owed, Due, due_as, due_self}
use Rattle.meaning.proofs.KnownNumbers.{EndSays, known_is}
use Rattle.meaning.proofs.Grants.{Grants, Shown, LenAsks, SpanAsks, Asks, Lawful}

-- what holds of what follows a span that ends at state s
abbrev pub FollowsOn : Setting → (ℕ → ℕ → ℤ) → ℕ → ℕ → Option Opening → Type 0
FollowsOn S σ k s None = Unit {0}
FollowsOn S σ k s (Some g) = (k ≤ s) × (s ≤ g.follower.span) × Due S σ s g.follower.span g.follower

-- what the interval σ grants at state k: what holds of it from there on; a place is the state where a span ends
abbrev pub holding : Setting → (ℕ → ℕ → ℤ) → ℕ → Grants
holding S σ k = record {
  value = λ x v. σ k x ≡ v;
  at = λ j e. EndSays k j e;
  now = λ d. (k ≤ d.span) × Due S σ k d.span d;
  next = λ d. (k < d.span) × Due S σ (suc k) d.span d;
  held = λ t. FollowsOn S σ k t.serial t.opening;
  extra = λ n φ w. Unit {0};
  full = Unit {0};
  clash = ⊥;
}

-- what is not at odds with a number agrees with it
agree_of : (q : Option ℤ) (r : ℤ) → ((z : ℤ) → q ≡ Some z → r ≡ z) → MatchesNumber q r
agree_of None r h = tt
agree_of (Some v) r h = sym (h v refl)

module _ (S : Setting) (L : Limits S.sheet) (σ : ℕ → ℕ → ℤ) (k : ℕ) where
  -- what the interval shows of an expression is its number
  read : (j e : ℕ) (v : ℤ) → Shown S (holding S σ k) j e v → number_on S σ k j e ≡ v
  read j e v t = known_is S L t.numbers t.end e v σ k j t.gives (λ x. agree_of (t.numbers x) (σ k x) (t.right x)) t.ending

  -- a length that is left asks for the end after so many states
  len_held : (d : Duty) (e c : ℕ) → statement_at S d.statement ≡ Len e → d.span ≡ k + c → LenAsks (holding S σ k) d (pos c)
  len_held d e zero a h = omega arith
  len_held d e (suc c) a h = let l : k < d.span = omega arith in (l, (l, due_as d.statement a (len_left (omega arith))))

  -- what is owed is what is asked
  asks_owed : (d : Duty) (st : Statement) (o : Option ℤ) → statement_at S d.statement ≡ st → d.number ≡ o → k ≤ d.span → Owed S σ k d.span st o → Asks S k (holding S σ k) d st o
  asks_owed d st o a c le true_owed = tt
  asks_owed d st o a c le (empty_owed h) = sym h
  asks_owed d st o a c le (more_owed h) = h
  asks_owed d st o a c le (is_owed {x = x} {e = e} h) = λ v t. h ∙ read d.span e v t
  asks_owed d st o a c le (and_owed h₁ h₂) = ((le, h₁), (le, h₂))
  asks_owed d st o a c le (then_owed {e = e} {p = p} {q = q} h₁ h₂) =
      λ v t. (le, subst (λ z. Owed S σ k d.span (statement_at S z) None) (sym (truth_yes v p q (λ z. h₁ (read d.span e v t ∙ z)))) h₂)
  asks_owed d st o a c le (else_owed {e = e} {p = p} {q = q} h₁ h₂) =
      λ v t. (le, subst (λ z. Owed S σ k d.span (statement_at S z) None) (sym (truth_no v p q (sym (read d.span e v t) ∙ h₁))) h₂)
  asks_owed d st o a c le (next_owed h₁ h₂) = (h₁, (h₁, h₂))
  asks_owed d st o a c le (always_owed h) = ((le, h k (omega arith) le), λ lt. (lt, due_self d a c (always_owed (λ i b. h i (omega arith)))))
  asks_owed d st o a c le (halt_owed {e = e} h₁ h₂) = λ v t. halt v (read d.span e v t) (ℕ_discrete k d.span)
    where
      halt : (v : ℤ) → number_on S σ k d.span e ≡ v → Dec (k ≡ d.span)
          → (v ≢ pos 0 → EndSays k d.span Last) × (v ≡ pos 0 → EndSays k d.span On × ((k < d.span) × Due S σ (suc k) d.span d))
      halt v r (yes q) = ((λ z. sym q), (λ z. absurd (h₁ (subst (λ i. number_on S σ i d.span e ≡ pos 0) q (r ∙ z)))))
      halt v r (no q) =
          let lt : k < d.span = omega arith in
          ((λ z. absurd (z (sym r ∙ h₂ k (omega arith) lt))), (λ z. (lt, (lt, due_self d a c (halt_owed h₁ (λ i b. h₂ i (omega arith)))))))
  asks_owed d st o a c le (len_owed {e = e} {n = r} h₁ h₂) = λ v t. subst (λ z. LenAsks (holding S σ k) d z) (sym h₁ ∙ read d.span e v t) (len_held d e r a h₂)
  asks_owed d st o a c le (len_left {e = e} {n = r} h) = len_held d e r a h
  asks_owed d st o a c le (gets_owed {x = x} {e = e} h) =
      λ lt v t. ((lt, due_as d.statement a (gets_value (h k (omega arith) lt ∙ read d.span e v t))), (lt, due_self d a c (gets_owed (λ i b. h i (omega arith)))))
  asks_owed d st o a c le (gets_value h) = h
  asks_owed d st o a c le (chop_owed j h₁ h₂ hp hq) = record { place = j; holds = (h₁, h₂, hq); body = (h₁, hp); starts = tt }
  asks_owed d st o a c le (for_owed {e = e} {p = p} v h₁ h₂) =
      λ u t. (le, due_as d.statement a (subst (λ z. Owed S σ k d.span (For e p) (Some z)) (sym h₁ ∙ read d.span e u t) h₂))
  asks_owed d st o a c le (for_below h) = sym h
  asks_owed d st o a c le (for_done h) = sym h
  asks_owed d st o a c le (for_round j h₁ h₂ hp hq) = record { place = j; holds = (h₁, h₂, due_as d.statement a hq); body = (h₁, hp); starts = tt }
  asks_owed d st o a c le (while_done {e = e} h₁ h₂) = λ v t. ((λ z. absurd (z (sym (read d.span e v t) ∙ h₁))), (λ z. sym h₂))
  asks_owed d st o a c le (while_round {e = e} j h₁ h₂ h₃ hp hq) =
      λ v t. ((λ z. record { place = j; holds = (omega arith, h₃, due_as d.statement a hq); body = (omega arith, hp); starts = h₂ }), (λ z. absurd (h₁ (read d.span e v t ∙ z))))
  asks_owed d st o a c le (request_owed h) = h

  -- a span asks what holds of what follows it
  span_asks : (s : ℕ) (g : Opening) → FollowsOn S σ k s (Some g) → SpanAsks (holding S σ k) s g
  span_asks s g h =
      ((λ i. omega (arith, h.1)), (λ i. (omega (arith, h.0, h.1), subst (λ z. Due S σ z g.follower.span g.follower) i h.2)), (λ i. omega (arith, h.0, h.1)))

  -- so what an interval grants is closed under the rules
  pub holding_lawful : ((x : ℕ) → value_fits S x (σ k x) ≡ true) → Lawful S k (holding S σ k)
  holding_lawful ranged = record {
    unknown = λ j. tt;
    one_end = λ j a b. absurd (omega arith);
    one_value = λ x a b p q. inl (sym p ∙ q);
    fitting = λ x v e. inl (subst (λ (z : ℤ). value_fits S x z ≡ true) e (ranged x));
    of_duty = λ d q. asks_owed d (statement_at S d.statement) d.number refl refl q.0 q.1;
    of_span = λ s g f q. span_asks s g q;
    value_extra = λ n φ w x v e. tt;
    end_extra = λ n φ w e s i. tt;
    duty_extra = λ n φ w d Y l e. ((λ b. tt), (λ b. tt));
    later_extra = λ n φ w d Y l e. ((λ b. tt), (λ b. tt));
    span_extra = λ φ w g Y l o e. ((λ b. tt), (λ b. tt));
  }
