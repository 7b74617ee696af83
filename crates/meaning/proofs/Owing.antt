-- What a statement, perhaps with a number, asks of the piece from state i to state j; and that one without a number asks what it means.
use Rattle.std.proofs.Common.{◌≡◌, ℕ, zero, suc, ◌+◌, ◌<◌, ◌≤◌, ◌≢◌, ◌↔◌, ℤ, pos, negsuc, Some, None, Option, sym, refl, subst, subst₂}
use Rattle.sheet.specs.declared.elements.Statement.{Statement}
use Rattle.sheet.specs.declared.elements.Statement.TheVariants.{True, False, Empty, More, Is, And, If, Next, Always, Halt, Len, Gets, Chop, For, While, Request}
use Rattle.meaning.specs.declared.duties.Duty.{Duty}
use Rattle.meaning.specs.Intervals.{Setting, statement_at}
use Rattle.meaning.specs.Holds.{number_on, rounds_of, Holds, true_holds, empty_holds, more_holds, is_holds, and_holds, then_holds, else_holds, next_holds, always_holds, halt_holds, len_holds, gets_holds, chop_holds, for_holds, while_stops, while_goes, request_holds, Rounds, no_round, one_round}

pub data Owed (S : Setting) (σ : ℕ → ℕ → ℤ) : ℕ → ℕ → Statement → Option ℤ → Type 0 where
  true_owed : {i j : ℕ} {o : Option ℤ} → Owed S σ i j True o
  empty_owed : {i j : ℕ} {o : Option ℤ} → i ≡ j → Owed S σ i j Empty o
  more_owed : {i j : ℕ} {o : Option ℤ} → i < j → Owed S σ i j More o
  is_owed : {i j x e : ℕ} {o : Option ℤ} → σ i x ≡ number_on S σ i j e → Owed S σ i j (Is x e) o
  and_owed : {i j p q : ℕ} {o : Option ℤ} → Owed S σ i j (statement_at S p) None → Owed S σ i j (statement_at S q) None → Owed S σ i j (And p q) o
  then_owed : {i j e p q : ℕ} {o : Option ℤ} → number_on S σ i j e ≢ pos 0 → Owed S σ i j (statement_at S p) None → Owed S σ i j (If e p q) o
  else_owed : {i j e p q : ℕ} {o : Option ℤ} → number_on S σ i j e ≡ pos 0 → Owed S σ i j (statement_at S q) None → Owed S σ i j (If e p q) o
  next_owed : {i j p : ℕ} {o : Option ℤ} → i < j → Owed S σ (suc i) j (statement_at S p) None → Owed S σ i j (Next p) o
  always_owed : {i j p : ℕ} {o : Option ℤ} → ((k : ℕ) → i ≤ k → k ≤ j → Owed S σ k j (statement_at S p) None) → Owed S σ i j (Always p) o
  halt_owed : {i j e : ℕ} {o : Option ℤ} → number_on S σ j j e ≢ pos 0 → ((k : ℕ) → i ≤ k → k < j → number_on S σ k j e ≡ pos 0) → Owed S σ i j (Halt e) o
  len_owed : {i j e n : ℕ} → number_on S σ i j e ≡ pos n → j ≡ i + n → Owed S σ i j (Len e) None
  len_left : {i j e n : ℕ} → j ≡ i + n → Owed S σ i j (Len e) (Some (pos n))
  gets_owed : {i j x e : ℕ} → ((k : ℕ) → i ≤ k → k < j → σ (suc k) x ≡ number_on S σ k j e) → Owed S σ i j (Gets x e) None
  gets_value : {i j x e : ℕ} {v : ℤ} → σ i x ≡ v → Owed S σ i j (Gets x e) (Some v)
  chop_owed : {i j p q : ℕ} {o : Option ℤ} (k : ℕ) → i ≤ k → k ≤ j → Owed S σ i k (statement_at S p) None → Owed S σ k j (statement_at S q) None → Owed S σ i j (Chop p q) o
  for_owed : {i j e p : ℕ} (c : ℤ) → number_on S σ i j e ≡ c → Owed S σ i j (For e p) (Some c) → Owed S σ i j (For e p) None
  for_below : {i j e p n : ℕ} → i ≡ j → Owed S σ i j (For e p) (Some (negsuc n))
  for_done : {i j e p : ℕ} → i ≡ j → Owed S σ i j (For e p) (Some (pos zero))
  for_round : {i j e p n : ℕ} (k : ℕ) → i ≤ k → k ≤ j → Owed S σ i k (statement_at S p) None → Owed S σ k j (For e p) (Some (pos n)) → Owed S σ i j (For e p) (Some (pos (suc n)))
  while_done : {i j e p : ℕ} {o : Option ℤ} → number_on S σ i j e ≡ pos 0 → i ≡ j → Owed S σ i j (While e p) o
  while_round : {i j e p : ℕ} {o : Option ℤ} (k : ℕ) → number_on S σ i j e ≢ pos 0 → i < k → k ≤ j → Owed S σ i k (statement_at S p) None → Owed S σ k j (While e p) None → Owed S σ i j (While e p) o
  request_owed : {i j x : ℕ} {o : Option ℤ} → ((v : ℤ) → S.readings x i ≡ Some v → σ i x ≡ v) → Owed S σ i j (Request x) o

-- what a duty asks from state k on, when its span ends at j
abbrev pub Due : Setting → (ℕ → ℕ → ℤ) → ℕ → ℕ → Duty → Type 0
Due S σ k j d = Owed S σ k j (statement_at S d.statement) d.number

module _ {S : Setting} {σ : ℕ → ℕ → ℤ} where
  below_of : {i j e p n : ℕ} → Owed S σ i j (For e p) (Some (pos 0)) → Owed S σ i j (For e p) (Some (negsuc n))
  below_of (for_done h) = for_below h

  some_rounds : {i j p e : ℕ} (c : ℤ) → Owed S σ i j (For e p) (Some (pos (rounds_of c))) → Owed S σ i j (For e p) (Some c)
  some_rounds (pos n) h = h
  some_rounds (negsuc n) h = below_of h

  mutual
    pub owed : {i j : ℕ} {st : Statement} → Holds S σ i j st → Owed S σ i j st None
    owed true_holds = true_owed
    owed (empty_holds h) = empty_owed h
    owed (more_holds h) = more_owed h
    owed (is_holds h) = is_owed h
    owed (and_holds a b) = and_owed (owed a) (owed b)
    owed (then_holds h a) = then_owed h (owed a)
    owed (else_holds h a) = else_owed h (owed a)
    owed (next_holds h a) = next_owed h (owed a)
    owed (always_holds h) = always_owed (λ k a b. owed (h k a b))
    owed (halt_holds a b) = halt_owed a b
    owed (len_holds a b) = len_owed a b
    owed (gets_holds h) = gets_owed h
    owed (chop_holds k a b p q) = chop_owed k a b (owed p) (owed q)
    owed (for_holds {i = i} {j = j} {e = e} r) = for_owed (number_on S σ i j e) refl (some_rounds (number_on S σ i j e) (owed_rounds r e))
    owed (while_stops a b) = while_done a b
    owed (while_goes k a b c p q) = while_round k a b c (owed p) (owed q)
    owed (request_holds h) = request_owed h

    owed_rounds : {i j p n : ℕ} → Rounds S σ i j p n → (e : ℕ) → Owed S σ i j (For e p) (Some (pos n))
    owed_rounds (no_round h) e = for_done h
    owed_rounds (one_round k a b p r) e = for_round k a b (owed p) (owed_rounds r e)

-- what a duty with a number asks, where it is a count of rounds
abbrev Numbered : Setting → (ℕ → ℕ → ℤ) → ℕ → ℕ → Statement → ℤ → Type 0
Numbered S σ i j True c = Unit {0}
Numbered S σ i j False c = Unit {0}
Numbered S σ i j Empty c = Unit {0}
Numbered S σ i j More c = Unit {0}
Numbered S σ i j (Is x e) c = Unit {0}
Numbered S σ i j (And p q) c = Unit {0}
Numbered S σ i j (If e p q) c = Unit {0}
Numbered S σ i j (Next p) c = Unit {0}
Numbered S σ i j (Always p) c = Unit {0}
Numbered S σ i j (Halt e) c = Unit {0}
Numbered S σ i j (Len e) c = Unit {0}
Numbered S σ i j (Gets x e) c = Unit {0}
Numbered S σ i j (Chop p q) c = Unit {0}
Numbered S σ i j (For e p) c = Rounds S σ i j p (rounds_of c)
Numbered S σ i j (While e p) c = Unit {0}
Numbered S σ i j (Request x) c = Unit {0}

abbrev Target : Setting → (ℕ → ℕ → ℤ) → ℕ → ℕ → Statement → Option ℤ → Type 0
Target S σ i j st None = Holds S σ i j st
Target S σ i j st (Some c) = Numbered S σ i j st c

pub holds : {S : Setting} {σ : ℕ → ℕ → ℤ} {i j : ℕ} {st : Statement} {o : Option ℤ} → Owed S σ i j st o → Target S σ i j st o
holds (true_owed {o = None}) = true_holds
holds (true_owed {o = Some z}) = tt
holds (empty_owed {o = None} h) = empty_holds h
holds (empty_owed {o = Some z} h) = tt
holds (more_owed {o = None} h) = more_holds h
holds (more_owed {o = Some z} h) = tt
holds (is_owed {o = None} h) = is_holds h
holds (is_owed {o = Some z} h) = tt
holds (and_owed {o = None} a b) = and_holds (holds a) (holds b)
holds (and_owed {o = Some z} a b) = tt
holds (then_owed {o = None} h a) = then_holds h (holds a)
holds (then_owed {o = Some z} h a) = tt
holds (else_owed {o = None} h a) = else_holds h (holds a)
holds (else_owed {o = Some z} h a) = tt
holds (next_owed {o = None} h a) = next_holds h (holds a)
holds (next_owed {o = Some z} h a) = tt
holds (always_owed {o = None} h) = always_holds (λ k a b. holds (h k a b))
holds (always_owed {o = Some z} h) = tt
holds (halt_owed {o = None} a b) = halt_holds a b
holds (halt_owed {o = Some z} a b) = tt
holds (chop_owed {o = None} k a b p q) = chop_holds k a b (holds p) (holds q)
holds (chop_owed {o = Some z} k a b p q) = tt
holds (while_done {o = None} a b) = while_stops a b
holds (while_done {o = Some z} a b) = tt
holds (while_round {o = None} k a b c p q) = while_goes k a b c (holds p) (holds q)
holds (while_round {o = Some z} k a b c p q) = tt
holds (request_owed {o = None} h) = request_holds h
holds (request_owed {o = Some z} h) = tt
holds (len_owed a b) = len_holds a b
holds (len_left h) = tt
holds (gets_owed h) = gets_holds h
holds (gets_value h) = tt
holds {S} {σ} (for_owed {i = i} {j = j} {p = p} c h r) = for_holds (subst (λ z. Rounds S σ i j p (rounds_of z)) (sym h) (holds r))
holds (for_below h) = no_round h
holds (for_done h) = no_round h
holds (for_round k a b p r) = one_round k a b (holds p) (holds r)

pub meaning : {S : Setting} {σ : ℕ → ℕ → ℤ} {i j : ℕ} {st : Statement} → Owed S σ i j st None ↔ Holds S σ i j st
meaning = ((λ h. holds h), (λ h. owed h))

module _ {S : Setting} {σ : ℕ → ℕ → ℤ} {i j : ℕ} where
  pub always_inv : {p : ℕ} {o : Option ℤ} → Owed S σ i j (Always p) o → (k : ℕ) → i ≤ k → k ≤ j → Owed S σ k j (statement_at S p) None
  always_inv (always_owed h) = h

  pub halt_inv : {e : ℕ} {o : Option ℤ} → Owed S σ i j (Halt e) o → (number_on S σ j j e ≢ pos 0) × ((k : ℕ) → i ≤ k → k < j → number_on S σ k j e ≡ pos 0)
  halt_inv (halt_owed a b) = (a, b)

  pub len_inv : {e n : ℕ} → Owed S σ i j (Len e) (Some (pos n)) → j ≡ i + n
  len_inv (len_left h) = h

  pub gets_inv : {x e : ℕ} → Owed S σ i j (Gets x e) None → (k : ℕ) → i ≤ k → k < j → σ (suc k) x ≡ number_on S σ k j e
  gets_inv (gets_owed h) = h

  pub gets_value_inv : {x e : ℕ} {v : ℤ} → Owed S σ i j (Gets x e) (Some v) → σ i x ≡ v
  gets_value_inv (gets_value h) = h

  -- what is owed under an equal statement is owed
  pub due_as : (s : ℕ) {st : Statement} {o : Option ℤ} → statement_at S s ≡ st → Owed S σ i j st o → Owed S σ i j (statement_at S s) o
  due_as s {o = o} a h = subst (λ z. Owed S σ i j z o) (sym a) h

  -- and so is what a duty with an equal statement and number asks
  pub due_self : (d : Duty) {st : Statement} {o : Option ℤ} → statement_at S d.statement ≡ st → d.number ≡ o → Owed S σ i j st o → Due S σ i j d
  due_self d a c h = subst₂ (λ z y. Owed S σ i j z y) (sym a) (sym c) h
