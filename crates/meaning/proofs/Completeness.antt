-- At rest with everything known, every duty of a state is owed as soon as what it carries on is.
use Rattle.std.proofs.Common.{◌≡◌, ℕ, zero, suc, ◌+◌, ◌<◌, ◌≤◌, true, cond, ◌&&◌, ltb, ◌≢◌, length, ℤ, pos, negsuc, Some, None, Option, sym, refl, ◌∙◌, subst, subst₂, arith}
use native.Mathlib.Decide.{ℕ_discrete}
use Rattle.std.proofs.lemmas.Bool.{ltb-true, and_parts}
use Rattle.sheet.specs.declared.elements.Statement.{Statement}
use Rattle.sheet.specs.declared.elements.Statement.TheVariants.{True, False, Empty, More, Is, And, If, Next, Always, Halt, Len, Gets, Chop, For, While, Request}
use Rattle.sheet.specs.Limits.{Limits, statement_ok}
use Rattle.value.specs.declared.end.End.{End}
use Rattle.value.specs.declared.end.End.TheVariants.{Unknown, On, Last}
use Rattle.value.specs.Values.{truth}
use Rattle.value.proofs.Numbers.{MatchesNumber}
use Rattle.meaning.specs.declared.duties.Duty.{Duty}
use Rattle.meaning.specs.declared.duties.Opening.{Opening}
use Rattle.meaning.specs.declared.duties.Span.{Span}
use Rattle.meaning.specs.Intervals.{Setting, width, statement_at}
use Rattle.meaning.specs.Holds.{number_on}
use Rattle.meaning.specs.Work.{Work, plain, numbered}
use Rattle.meaning.specs.Rules.{chop_opening, for_opening, while_opening}
use Rattle.meaning.specs.WellFormed.{◌∈◌, EndIs, RunsBody, IsEnded}
use Rattle.meaning.proofs.Tests.{Stands, truth_yes, truth_no, zero_or_not}
use Rattle.meaning.proofs.Owing.{Owed, true_owed, empty_owed, more_owed, is_owed, and_owed, then_owed, else_owed, next_owed, always_owed, halt_owed, len_owed, len_left, gets_owed, gets_value, chop_owed, for_owed, for_below, for_done, for_round, while_done, while_round, request_owed, Due, always_inv, halt_inv, len_inv, gets_inv, gets_value_inv}
use Rattle.meaning.proofs.KnownNumbers.{IsGiven, EndSays, statement_with_ok, known_all}
use Rattle.meaning.proofs.Rest.{LenRest, Shows, Demands, SpanRest, Rest}
use Rattle.meaning.proofs.RunsInSomeOrder.{end_on, end_last}

-- the end of span s is known, and says where it ends
abbrev pub EndOk : ℕ → (ℕ → ℕ) → Work → ℕ → Type 0
EndOk k E u s = (IsEnded (u.ends s)) × (EndSays k (E s) (u.ends s))

-- a settled state k of the record ρ, with the ends E, of which the later states keep their part
pub record Fulfils (S : Setting) (ρ : ℕ → ℕ → ℤ) (k : ℕ) (E : ℕ → ℕ) (u : Work) : Type 0 where
  pub rest : Rest S k u
  pub given : (x : ℕ) → x < width S → IsGiven (u.known x)
  pub values : (x : ℕ) → x < width S → MatchesNumber (u.known x) (ρ k x)
  pub duty_ends : (d : Duty) → d ∈ u.duties → EndOk k E u d.span
  pub span_ends : (t : Span) → t ∈ u.spans → EndOk k E u t.serial
  pub outer_ends : (t : Span) (g : Opening) → t ∈ u.spans → t.opening ≡ Some g → EndOk k E u g.follower.span
  pub bodies : (t : Span) → t ∈ u.spans → RunsBody u t
  pub carried_on : (d : Duty) → d ∈ u.later → Due S ρ (suc k) (E d.span) d
  pub followed : (t : Span) (g : Opening) → t ∈ u.spans → t.opening ≡ Some g → u.ends t.serial ≡ On → (E t.serial ≤ E g.follower.span) × Due S ρ (E t.serial) (E g.follower.span) g.follower

same_at : {r : ℤ} {q : Option ℤ} {v : ℤ} → MatchesNumber q r → q ≡ Some v → r ≡ v
same_at {r} h e = sym (subst (λ z. MatchesNumber z r) e h)

-- an end that is known and not here is on
on_if : {k j : ℕ} (c : End) → k < j → IsEnded c → EndSays k j c → c ≡ On
on_if Unknown l s h = absurd s
on_if On l s h = refl
on_if Last l s h = absurd (omega arith)

pub reaches : {k j : ℕ} (c : End) → IsEnded c → EndSays k j c → k ≤ j
reaches Unknown s h = absurd s
reaches On s h = omega arith
reaches Last s h = omega arith

-- two operands that are lower
lower_two : (p q s : ℕ) → (ltb p s && ltb q s) ≡ true → (p < s) × (q < s)
lower_two p q s h = let r = and_parts (ltb p s) (ltb q s) h in (ltb-true p s r.0, ltb-true q s r.1)

module _ (S : Setting) (L : Limits S.sheet) {ρ : ℕ → ℕ → ℤ} {k : ℕ} {E : ℕ → ℕ} {u : Work} (F : Fulfils S ρ k E u) where
  -- the number of an expression, for a duty
  abbrev number_at_rest : Duty → ℕ → ℤ
  number_at_rest d e = number_on S ρ k (E d.span) e

  -- it is known
  shown : (d : Duty) → d ∈ u.duties → (e : ℕ) → Shows S d u e (number_at_rest d e)
  shown d q e = let b : EndOk k E u d.span = F.duty_ends d q in known_all S L u.known (u.ends d.span) e ρ k (E d.span) F.given F.values b.0 b.1

  -- a span that an opening made runs its body
  body : (g : Opening) (h : Stands g u.spans) → (plain g.body h.span.serial ∈ u.duties) × EndIs (u.ends h.span.serial) g.starts
  body g h = F.bodies h.span h.inside g h.opened h.newly

  -- what follows a span is owed, from its end on
  pub record Follows (g : Opening) (s : ℕ) : Type 0 where
    pub from : k ≤ E s
    pub till : E s ≤ E g.follower.span
    pub due : Due S ρ (E s) (E g.follower.span) g.follower

  pub follows : (g : Opening) (t : Span) → t ∈ u.spans → t.opening ≡ Some g → (g.follower ∈ u.duties → Due S ρ k (E g.follower.span) g.follower) → Follows g t.serial
  follows g t inside opened h = by (u.ends t.serial) refl
    where
      b : EndOk k E u t.serial
      b = F.span_ends t inside

      r : SpanRest u t.serial (Some g)
      r = subst (λ z. SpanRest u t.serial z) opened (F.rest.of_span t inside)

      o : EndOk k E u g.follower.span
      o = F.outer_ends t g inside opened

      by : (c : End) → u.ends t.serial ≡ c → Follows g t.serial
      by Unknown e = absurd (subst IsEnded e b.0)
      by On e = let f = F.followed t g inside opened e in let l : k < E t.serial = end_on e b.1 in record { from = omega arith; till = f.0; due = f.1 }
      by Last e =
          let p : E t.serial ≡ k = end_last e b.1 in
          let l : k ≤ E g.follower.span = reaches (u.ends g.follower.span) o.0 o.1 in
          record { from = omega arith; till = omega arith; due = subst (λ i. Due S ρ i (E g.follower.span) g.follower) (sym p) (h (r.1 e)) }

  abbrev Lower : Duty → Type 0
  Lower d = (c : Duty) → c ∈ u.duties → c.statement < d.statement → Due S ρ k (E c.span) c

  due_for : {i j : ℕ} (s : ℕ) {st : Statement} {o : Option ℤ} → statement_at S s ≡ st → Owed S ρ i j (statement_at S s) o → Owed S ρ i j st o
  due_for {i} {j} s {o = o} a h = subst (λ z. Owed S ρ i j z o) a h

  due_of : {i j : ℕ} (d : Duty) {st : Statement} {o : Option ℤ} → statement_at S d.statement ≡ st → d.number ≡ o → Due S ρ i j d → Owed S ρ i j st o
  due_of {i} {j} d a c h = subst₂ (λ z y. Owed S ρ i j z y) a c h

  if_exact : (d : Duty) (e p r : ℕ) {o : Option ℤ} → d ∈ u.duties → (p < d.statement) × (r < d.statement) → ((v : ℤ) → Shows S d u e v → plain (cond (truth v) p r) d.span ∈ u.duties) → Lower d → Dec (number_at_rest d e ≡ pos 0) → Owed S ρ k (E d.span) (If e p r) o
  if_exact d e p r q b h ih (yes z) = else_owed (z) (ih (plain r d.span) (subst (λ x. plain x d.span ∈ u.duties) (truth_no (number_at_rest d e) p r z) (h (number_at_rest d e) (shown d q e))) b.1)
  if_exact d e p r q b h ih (no z) = then_owed z (ih (plain p d.span) (subst (λ x. plain x d.span ∈ u.duties) (truth_yes (number_at_rest d e) p r z) (h (number_at_rest d e) (shown d q e))) b.0)

  always_exact : (d : Duty) (p : ℕ) {o : Option ℤ} → d ∈ u.duties → statement_at S d.statement ≡ Always p → d.number ≡ o → (u.ends d.span ≡ On → d ∈ u.later) → Owed S ρ k (E d.span) (statement_at S p) None → (i : ℕ) → k ≤ i → i ≤ E d.span → Owed S ρ i (E d.span) (statement_at S p) None
  always_exact d p q a c h now i l r = by (ℕ_discrete k i)
    where
      by : Dec (k ≡ i) → Owed S ρ i (E d.span) (statement_at S p) None
      by (yes e) = subst (λ j. Owed S ρ j (E d.span) (statement_at S p) None) e now
      by (no x) = let b : EndOk k E u d.span = F.duty_ends d q in always_inv (due_of d a c (F.carried_on d (h (on_if (u.ends d.span) (omega arith) b.0 b.1)))) i (omega arith) r

  halt_exact : (d : Duty) (e : ℕ) {o : Option ℤ} → d ∈ u.duties → statement_at S d.statement ≡ Halt e → d.number ≡ o → (number_at_rest d e ≢ pos 0 → u.ends d.span ≡ Last) × (number_at_rest d e ≡ pos 0 → (u.ends d.span ≡ On) × (d ∈ u.later)) → Dec (number_at_rest d e ≡ pos 0) → Owed S ρ k (E d.span) (Halt e) o
  halt_exact d e q a c h (no z) =
      let p : E d.span ≡ k = end_last (h.0 z) (F.duty_ends d q).1 in
      halt_owed (λ y. z (subst (λ i. number_on S ρ i (E d.span) e ≡ pos 0) p y)) (λ i l r. absurd (omega arith))
  halt_exact d e q a c h (yes z) = halt_owed after.0 (λ i l r. by i l r (ℕ_discrete k i))
    where
      after : (number_on S ρ (E d.span) (E d.span) e ≢ pos 0) × ((i : ℕ) → suc k ≤ i → i < E d.span → number_on S ρ i (E d.span) e ≡ pos 0)
      after = halt_inv (due_of d a c (F.carried_on d (h.1 z).1))

      by : (i : ℕ) → k ≤ i → i < E d.span → Dec (k ≡ i) → number_on S ρ i (E d.span) e ≡ pos 0
      by i l r (yes x) = subst (λ j. number_on S ρ j (E d.span) e ≡ pos 0) x (z)
      by i l r (no x) = after.1 i (omega arith) r

  len_exact : (d : Duty) (e : ℕ) → d ∈ u.duties → statement_at S d.statement ≡ Len e → (v : ℤ) → LenRest d u v → (n : ℕ) × (v ≡ pos n) × (E d.span ≡ k + n)
  len_exact d e q a (pos zero) h = let p : E d.span ≡ k = end_last h (F.duty_ends d q).1 in (0, refl, omega arith)
  len_exact d e q a (pos (suc n)) h = let p : E d.span ≡ suc k + n = len_inv (due_for d.statement a (F.carried_on (numbered d.statement (pos n) d.span) h.1)) in (suc n, refl, omega arith)
  len_exact d e q a (negsuc n) h = absurd h

  len_known : (d : Duty) (e : ℕ) → d ∈ u.duties → (v : ℤ) → number_on S ρ k (E d.span) e ≡ v → (n : ℕ) × (v ≡ pos n) × (E d.span ≡ k + n) → Owed S ρ k (E d.span) (Len e) None
  len_known d e q v h r = len_owed (h ∙ r.1) r.2

  len_some : (d : Duty) (e : ℕ) (v : ℤ) → (n : ℕ) × (v ≡ pos n) × (E d.span ≡ k + n) → Owed S ρ k (E d.span) (Len e) (Some v)
  len_some d e v r = subst (λ z. Owed S ρ k (E d.span) (Len e) (Some z)) (sym r.1) (len_left r.2)

  gets_exact : (d : Duty) (x e : ℕ) → d ∈ u.duties → statement_at S d.statement ≡ Gets x e → d.number ≡ None → (u.ends d.span ≡ On → (v : ℤ) → Shows S d u e v → (numbered d.statement v d.span ∈ u.later) × (d ∈ u.later)) → (i : ℕ) → k ≤ i → i < E d.span → ρ (suc i) x ≡ number_on S ρ i (E d.span) e
  gets_exact d x e q a c h i l r = by (ℕ_discrete k i)
    where
      b : EndOk k E u d.span
      b = F.duty_ends d q

      m : (numbered d.statement (number_at_rest d e) d.span ∈ u.later) × (d ∈ u.later)
      m = h (on_if (u.ends d.span) (omega arith) b.0 b.1) (number_at_rest d e) (shown d q e)

      by : Dec (k ≡ i) → ρ (suc i) x ≡ number_on S ρ i (E d.span) e
      by (yes y) = subst (λ j. ρ (suc j) x ≡ number_on S ρ j (E d.span) e) y (gets_value_inv (due_for d.statement a (F.carried_on (numbered d.statement (number_at_rest d e) d.span) m.0)))
      by (no y) = gets_inv (due_of d a c (F.carried_on d m.1)) i (omega arith) r

  -- the lower duties of a number
  abbrev LowerOf : ℕ → Type 0
  LowerOf s = (c : Duty) → c ∈ u.duties → c.statement < s → Due S ρ k (E c.span) c

  for_count : (s t e p : ℕ) → statement_at S s ≡ For e p → p < s → LowerOf s → (n : ℕ) → numbered s (pos n) t ∈ u.duties → Owed S ρ k (E t) (For e p) (Some (pos n))
  for_count s t e p a b ih zero q = let d : Duty = numbered s (pos 0) t in let h : u.ends t ≡ Last = subst (λ z. Demands S k d u z (Some (pos 0))) a (F.rest.of_duty d q) in for_done (sym (end_last h (F.duty_ends d q).1))
  for_count s t e p a b ih (suc n) q =
      let d : Duty = numbered s (pos (suc n)) t in
      let h : Stands (for_opening d p n) u.spans = subst (λ z. Demands S k d u z (Some (pos (suc n)))) a (F.rest.of_duty d q) in
      let f : Follows (for_opening d p n) h.span.serial = follows (for_opening d p n) h.span h.inside h.opened (λ m. subst (λ z. Owed S ρ k (E t) z (Some (pos n))) (sym a) (for_count s t e p a b ih n m)) in
      for_round (E h.span.serial) f.from f.till (ih (plain p h.span.serial) (body (for_opening d p n) h).0 b) (due_for s a f.due)

  for_exact : (s t e p : ℕ) → statement_at S s ≡ For e p → p < s → LowerOf s → (c : ℤ) → numbered s c t ∈ u.duties → Owed S ρ k (E t) (For e p) (Some c)
  for_exact s t e p a b ih (pos n) q = for_count s t e p a b ih n q
  for_exact s t e p a b ih (negsuc n) q = let d : Duty = numbered s (negsuc n) t in let h : u.ends t ≡ Last = subst (λ z. Demands S k d u z (Some (negsuc n))) a (F.rest.of_duty d q) in for_below (sym (end_last h (F.duty_ends d q).1))

  while_exact : (d : Duty) (e p : ℕ) {o : Option ℤ} → d ∈ u.duties → statement_at S d.statement ≡ While e p → p < d.statement → (number_at_rest d e ≢ pos 0 → Stands (while_opening d p) u.spans) × (number_at_rest d e ≡ pos 0 → u.ends d.span ≡ Last) → Lower d → Dec (number_at_rest d e ≡ pos 0) → Owed S ρ k (E d.span) (While e p) o
  while_exact d e p q a b h ih (yes z) = while_done (z) (sym (end_last (h.1 z) (F.duty_ends d q).1))
  while_exact d e p q a b h ih (no z) =
      let st : Stands (while_opening d p) u.spans = h.0 z in
      let t : Span = st.span in
      let l : k < E t.serial = end_on (body (while_opening d p) st).1 (F.span_ends t st.inside).1 in
      let f : (E t.serial ≤ E d.span) × Due S ρ (E t.serial) (E d.span) (plain d.statement d.span) = F.followed t (while_opening d p) st.inside st.opened (body (while_opening d p) st).1 in
      while_round (E t.serial) z l f.0 (ih (plain p t.serial) (body (while_opening d p) st).0 b) (due_for d.statement a f.1)

  exact_of : (m : ℕ) (d : Duty) (st : Statement) (o : Option ℤ) → d ∈ u.duties → statement_at S d.statement ≡ st → d.number ≡ o → statement_ok (width S) m d.statement st ≡ true → Demands S k d u st o → Lower d → Owed S ρ k (E d.span) st o
  exact_of m d True o q a c b h ih = true_owed
  exact_of m d False o q a c b h ih = absurd h
  exact_of m d Empty o q a c b h ih = empty_owed (sym (end_last h (F.duty_ends d q).1))
  exact_of m d More o q a c b h ih = more_owed (end_on h (F.duty_ends d q).1)
  exact_of m d (Is x e) o q a c b h ih = is_owed (same_at (F.values x (ltb-true x (width S) (and_parts (ltb x (width S)) (ltb e m) b).0)) (h (number_at_rest d e) (shown d q e)))
  exact_of m d (And p r) o q a c b h ih = let l = lower_two p r d.statement b in and_owed (ih (plain p d.span) h.0 l.0) (ih (plain r d.span) h.1 l.1)
  exact_of m d (If e p r) o q a c b h ih = if_exact d e p r q (lower_two p r d.statement (and_parts (ltb e m) (ltb p d.statement && ltb r d.statement) b).1) h ih (zero_or_not (number_at_rest d e))
  exact_of m d (Next p) o q a c b h ih = next_owed (end_on h.0 (F.duty_ends d q).1) (F.carried_on (plain p d.span) h.1)
  exact_of m d (Always p) o q a c b h ih = always_owed (always_exact d p q a c h.1 (ih (plain p d.span) h.0 (ltb-true p d.statement b)))
  exact_of m d (Halt e) o q a c b h ih = halt_exact d e q a c (h (number_at_rest d e) (shown d q e)) (zero_or_not (number_at_rest d e))
  exact_of m d (Len e) None q a c b h ih = len_known d e q (number_at_rest d e) refl (len_exact d e q a (number_at_rest d e) (h (number_at_rest d e) (shown d q e)))
  exact_of m d (Len e) (Some n) q a c b h ih = len_some d e n (len_exact d e q a n h)
  exact_of m d (Gets x e) None q a c b h ih = gets_owed (gets_exact d x e q a c h)
  exact_of m d (Gets x e) (Some v) q a c b h ih = gets_value (same_at (F.values x (ltb-true x (width S) (and_parts (ltb x (width S)) (ltb e m) b).0)) h)
  exact_of m d (Chop p r) o q a c b h ih =
      let f = follows (chop_opening d p r) h.span h.inside h.opened (λ m. ih (plain r d.span) m (lower_two p r d.statement b).1) in
      chop_owed (E h.span.serial) f.from f.till (ih (plain p h.span.serial) (body (chop_opening d p r) h).0 (lower_two p r d.statement b).0) f.due
  exact_of m d (For e p) None q a c b h ih = for_owed (number_at_rest d e) refl (for_exact d.statement d.span e p a (ltb-true p d.statement (and_parts (ltb e m) (ltb p d.statement) b).1) ih (number_at_rest d e) (h (number_at_rest d e) (shown d q e)))
  exact_of m d (For e p) (Some n) q a c b h ih = for_exact d.statement d.span e p a (ltb-true p d.statement (and_parts (ltb e m) (ltb p d.statement) b).1) ih n (subst (λ z. record { statement = d.statement; number = z; span = d.span } ∈ u.duties) c q)
  exact_of m d (While e p) o q a c b h ih = while_exact d e p q a (ltb-true p d.statement (and_parts (ltb e m) (ltb p d.statement) b).1) (h (number_at_rest d e) (shown d q e)) ih (zero_or_not (number_at_rest d e))
  exact_of m d (Request x) o q a c b h ih = request_owed (λ v e. same_at (F.values x (ltb-true x (width S) b)) (h v e))

  exact_below : (b : ℕ) (d : Duty) → d ∈ u.duties → d.statement < b → Due S ρ k (E d.span) d
  exact_below zero d q l = absurd (omega arith)
  exact_below (suc b) d q l = exact_of (length S.sheet.expressions) d (statement_at S d.statement) d.number q refl refl (statement_with_ok S L d.statement) (F.rest.of_duty d q) (λ c r m. exact_below b c r (omega arith))

  pub exact : (d : Duty) → d ∈ u.duties → Due S ρ k (E d.span) d
  exact d q = exact_below (suc d.statement) d q (omega arith)
