-- What a work at rest says of each duty and of each span.
use Rattle.std.proofs.Common.{◌≡◌, ℕ, zero, suc, ◌≤◌, cond, ◌≢◌, List, [], ◌∷◌, ℤ, pos, negsuc, Some, None, Option, sym, refl, ap, ◌∙◌, subst, arith}
use native.Mathlib.Decide.{ℕ_discrete}
use Rattle.std.specs.List.{slice_get}
use Rattle.sheet.specs.declared.elements.Statement.{Statement}
use Rattle.sheet.specs.declared.elements.Statement.TheVariants.{True, False, Empty, More, Is, And, If, Next, Always, Halt, Len, Gets, Chop, For, While, Request}
use Rattle.value.specs.declared.end.End.{End}
use Rattle.value.specs.declared.end.End.TheVariants.{Unknown, On, Last}
use Rattle.value.specs.Values.{truth}
use Rattle.meaning.specs.declared.duties.Duty.{Duty}
use Rattle.meaning.specs.declared.duties.Opening.{Opening}
use Rattle.meaning.specs.declared.duties.Span.{Span}
use Rattle.meaning.specs.Intervals.{Setting, statement_at}
use Rattle.meaning.specs.Work.{Work, Outcome, plain, numbered}
use Rattle.meaning.specs.Effects.{give, add, carry}
use Rattle.meaning.specs.Rules.{known_for, once_known, when_on, chop_opening, for_opening, while_opening, halt_rule, len_rule, gets_rule, for_rule, while_rule, rule, inherit_last, give_on, visit_opened}
use Rattle.meaning.specs.Passes.{visit_or, visit_duties, visit_spans, pass_fuel, pass}
use Rattle.meaning.specs.WellFormed.{◌∈◌, here, there}
use Rattle.meaning.proofs.Lists.{none_some, some_injective, in_nth, nth_none}
use Rattle.meaning.proofs.Tests.{Stands, unknown_on, unknown_last, on_last}
use Rattle.meaning.proofs.Unchanged.{Rests, quiet, loud_stop, says, then_rests, once_rests, when_rests, truth_rests, add_rests, carry_rests, put_rests, give_rests, open_rests}

-- what a work at rest says of a `len` with a number
abbrev pub LenRest : Duty → Work → ℤ → Type 0
LenRest d w (pos zero) = w.ends d.span ≡ Last
LenRest d w (pos (suc n)) = (w.ends d.span ≡ On) × (numbered d.statement (pos n) d.span ∈ w.later)
LenRest d w (negsuc n) = ⊥

-- and of a `for`
abbrev pub ForRest : Duty → Work → ℕ → ℤ → Type 0
ForRest d w p (pos zero) = w.ends d.span ≡ Last
ForRest d w p (pos (suc n)) = Stands (for_opening d p n) w.spans
ForRest d w p (negsuc n) = w.ends d.span ≡ Last

-- the number of an expression is known to be v, for a duty of this work
abbrev pub Shows : Setting → Duty → Work → ℕ → ℤ → Type 0
Shows S d w e v = known_for S w d e ≡ Some v

-- what a work at rest says of a duty
abbrev pub Demands : Setting → ℕ → Duty → Work → Statement → Option ℤ → Type 0
Demands S k d w True o = Unit {0}
Demands S k d w False o = ⊥
Demands S k d w Empty o = w.ends d.span ≡ Last
Demands S k d w More o = w.ends d.span ≡ On
Demands S k d w (Is x e) o = (v : ℤ) → Shows S d w e v → w.known x ≡ Some v
Demands S k d w (And p q) o = (plain p d.span ∈ w.duties) × (plain q d.span ∈ w.duties)
Demands S k d w (If e p q) o = (v : ℤ) → Shows S d w e v → plain (cond (truth v) p q) d.span ∈ w.duties
Demands S k d w (Next p) o = (w.ends d.span ≡ On) × (plain p d.span ∈ w.later)
Demands S k d w (Always p) o = (plain p d.span ∈ w.duties) × (w.ends d.span ≡ On → d ∈ w.later)
Demands S k d w (Halt e) o = (v : ℤ) → Shows S d w e v → (v ≢ pos 0 → w.ends d.span ≡ Last) × (v ≡ pos 0 → (w.ends d.span ≡ On) × (d ∈ w.later))
Demands S k d w (Len e) None = (v : ℤ) → Shows S d w e v → LenRest d w v
Demands S k d w (Len e) (Some c) = LenRest d w c
Demands S k d w (Gets x e) None = w.ends d.span ≡ On → (v : ℤ) → Shows S d w e v → (numbered d.statement v d.span ∈ w.later) × (d ∈ w.later)
Demands S k d w (Gets x e) (Some v) = w.known x ≡ Some v
Demands S k d w (Chop p q) o = Stands (chop_opening d p q) w.spans
Demands S k d w (For e p) None = (v : ℤ) → Shows S d w e v → numbered d.statement v d.span ∈ w.duties
Demands S k d w (For e p) (Some c) = ForRest d w p c
Demands S k d w (While e p) o = (v : ℤ) → Shows S d w e v → (v ≢ pos 0 → Stands (while_opening d p) w.spans) × (v ≡ pos 0 → w.ends d.span ≡ Last)
Demands S k d w (Request x) o = (v : ℤ) → S.readings x k ≡ Some v → w.known x ≡ Some v

len_rests : (d : Duty) (w : Work) (c : ℤ) → Rests w (len_rule d c w) (LenRest d w c)
len_rests d w (pos zero) = put_rests d.statement Last d.span w
len_rests d w (pos (suc n)) = then_rests w _ (carry (numbered d.statement (pos n) d.span)) _ (λ v. numbered d.statement (pos n) d.span ∈ v.later) (put_rests d.statement On d.span w) (carry_rests (numbered d.statement (pos n) d.span))
len_rests d w (negsuc n) = λ u e. loud_stop _ u e

for_rests : (d : Duty) (w : Work) (p : ℕ) (c : ℤ) → Rests w (for_rule d p c w) (ForRest d w p c)
for_rests d w p (pos zero) = put_rests d.statement Last d.span w
for_rests d w p (pos (suc n)) = open_rests (for_opening d p n) w
for_rests d w p (negsuc n) = put_rests d.statement Last d.span w

halt_rests : (d : Duty) (w : Work) (v : ℤ) → Rests w (halt_rule d v w) ((v ≢ pos 0 → w.ends d.span ≡ Last) × (v ≡ pos 0 → (w.ends d.span ≡ On) × (d ∈ w.later)))
halt_rests d w v = truth_rests w v _ _ _ _ (put_rests d.statement Last d.span w) (then_rests w _ (carry d) _ (λ u. d ∈ u.later) (put_rests d.statement On d.span w) (carry_rests d))

while_rests : (d : Duty) (w : Work) (p : ℕ) (v : ℤ) → Rests w (while_rule d p v w) ((v ≢ pos 0 → Stands (while_opening d p) w.spans) × (v ≡ pos 0 → w.ends d.span ≡ Last))
while_rests d w p v = truth_rests w v _ _ _ _ (open_rests (while_opening d p) w) (put_rests d.statement Last d.span w)

gets_rests : (d : Duty) (w : Work) (v : ℤ) → Rests w (gets_rule d v w) ((numbered d.statement v d.span ∈ w.later) × (d ∈ w.later))
gets_rests d w v = then_rests w _ (carry d) _ (λ u. d ∈ u.later) (carry_rests (numbered d.statement v d.span) w) (carry_rests d)

pub rule_rests : (S : Setting) (k : ℕ) (d : Duty) (w : Work) (st : Statement) (o : Option ℤ) → Rests w (rule S k st o d w) (Demands S k d w st o)
rule_rests S k d w True o = quiet w
rule_rests S k d w False o = λ u e. loud_stop _ u e
rule_rests S k d w Empty o = put_rests d.statement Last d.span w
rule_rests S k d w More o = put_rests d.statement On d.span w
rule_rests S k d w (Is x e) o = once_rests w _ (give S d.statement x) _ (λ v. give_rests S d.statement x v w)
rule_rests S k d w (And p q) o = then_rests w _ (add (plain q d.span)) _ (λ v. plain q d.span ∈ v.duties) (add_rests (plain p d.span) w) (add_rests (plain q d.span))
rule_rests S k d w (If e p q) o = once_rests w _ (λ v. add (plain (cond (truth v) p q) d.span)) _ (λ v. add_rests (plain (cond (truth v) p q) d.span) w)
rule_rests S k d w (Next p) o = then_rests w _ (carry (plain p d.span)) _ (λ v. plain p d.span ∈ v.later) (put_rests d.statement On d.span w) (carry_rests (plain p d.span))
rule_rests S k d w (Always p) o = then_rests w _ (λ u. when_on (u.ends d.span) (carry d) u) _ (λ v. v.ends d.span ≡ On → d ∈ v.later) (add_rests (plain p d.span) w) (λ v. when_rests v (v.ends d.span) (carry d) _ (carry_rests d v))
rule_rests S k d w (Halt e) o = once_rests w _ (halt_rule d) _ (halt_rests d w)
rule_rests S k d w (Len e) None = once_rests w _ (len_rule d) _ (len_rests d w)
rule_rests S k d w (Len e) (Some c) = len_rests d w c
rule_rests S k d w (Gets x e) None = when_rests w (w.ends d.span) (once_known (known_for S w d e) (gets_rule d)) _ (once_rests w _ (gets_rule d) _ (gets_rests d w))
rule_rests S k d w (Gets x e) (Some v) = give_rests S d.statement x v w
rule_rests S k d w (Chop p q) o = open_rests (chop_opening d p q) w
rule_rests S k d w (For e p) None = once_rests w _ (λ c. add (numbered d.statement c d.span)) _ (λ c. add_rests (numbered d.statement c d.span) w)
rule_rests S k d w (For e p) (Some c) = for_rests d w p c
rule_rests S k d w (While e p) o = once_rests w _ (while_rule d p) _ (while_rests d w p)
rule_rests S k d w (Request x) o = once_rests w (S.readings x k) (give S d.statement x) _ (λ v. give_rests S d.statement x v w)

-- what it says of a span
abbrev pub SpanRest : Work → ℕ → Option Opening → Type 0
SpanRest w s None = Unit {0}
SpanRest w s (Some g) = (w.ends s ≡ On → w.ends g.follower.span ≡ On) × (w.ends s ≡ Last → g.follower ∈ w.duties) × (w.ends g.follower.span ≡ Last → w.ends s ≡ Last)

take_rests : (c : End) (p s : ℕ) (w : Work) → Rests w (inherit_last c p s w) (c ≡ Last → w.ends s ≡ Last)
take_rests Unknown p s w = says w _ _ _ (λ _ e. absurd (unknown_last e)) (quiet w)
take_rests On p s w = says w _ _ _ (λ _ e. absurd (on_last e)) (quiet w)
take_rests Last p s w = says w _ _ _ (λ h _. h) (put_rests p Last s w)

hand_rests : (u : Work) (c : End) (g : Opening) → Rests u (give_on c g u) ((c ≡ On → u.ends g.follower.span ≡ On) × (c ≡ Last → g.follower ∈ u.duties))
hand_rests u Unknown g = says u _ _ _ (λ _. ((λ e. absurd (unknown_on e)), (λ e. absurd (unknown_last e)))) (quiet u)
hand_rests u On g = says u _ _ _ (λ h. ((λ _. h), (λ e. absurd (on_last e)))) (put_rests g.by On g.follower.span u)
hand_rests u Last g = says u _ _ _ (λ h. ((λ e. absurd (on_last (sym e))), (λ _. h))) (add_rests g.follower u)

pub opened_rests : (w : Work) (s : ℕ) (q : Option Opening) → Rests w (visit_opened q s w) (SpanRest w s q)
opened_rests w s None = quiet w
opened_rests w s (Some g) =
    says w _ _ _ (λ h. (h.1.0, h.1.1, h.0))
    (then_rests w _ (λ u. give_on (u.ends s) g u) (w.ends g.follower.span ≡ Last → w.ends s ≡ Last) (λ u. (u.ends s ≡ On → u.ends g.follower.span ≡ On) × (u.ends s ≡ Last → g.follower ∈ u.duties))
    (take_rests (w.ends g.follower.span) g.by s w) (λ u. hand_rests u (u.ends s) g))

-- a pass that changes nothing
pub record Rest (S : Setting) (k : ℕ) (w : Work) : Type 0 where
  pub of_duty : (d : Duty) → d ∈ w.duties → Demands S k d w (statement_at S d.statement) d.number
  pub of_span : (t : Span) → t ∈ w.spans → SpanRest w t.serial t.opening

-- the duties from the i-th on are at rest
abbrev From : Setting → ℕ → ℕ → Work → Type 0
From S k i w = (j : ℕ) (d : Duty) → i ≤ j → slice_get w.duties j ≡ Some d → Demands S k d w (statement_at S d.statement) d.number

or_rests : (S : Setting) (k i : ℕ) (w : Work) (q : Option Duty) (f : Work → Outcome) → slice_get w.duties i ≡ q → ((v : Work) → Rests v (f v) (From S k (suc i) v)) → Rests w (visit_or S k q f w) (From S k i w)
or_rests S k i w None f e r = says w _ _ _ (λ _ j d h p. absurd (none_some d (sym (nth_none w.duties i j h e) ∙ p))) (quiet w)
or_rests S k i w (Some d) f e r = says w _ _ _ (λ h j c l p. by h j c l p (ℕ_discrete i j)) (then_rests w _ f _ (From S k (suc i)) (rule_rests S k d w (statement_at S d.statement) d.number) r)
  where
    by : (Demands S k d w (statement_at S d.statement) d.number) × (From S k (suc i) w) → (j : ℕ) (c : Duty) → i ≤ j → slice_get w.duties j ≡ Some c → Dec (i ≡ j) → Demands S k c w (statement_at S c.statement) c.number
    by h j c l p (yes x) = subst (λ z. Demands S k z w (statement_at S z.statement) z.number) (some_injective d c (sym e ∙ ap (λ z. slice_get w.duties z) x ∙ p)) h.0
    by h j c l p (no x) = h.1 j c (omega arith) p

duties_rest : (S : Setting) (k f i : ℕ) (w : Work) → Rests w (visit_duties S k f i w) (From S k i w)
duties_rest S k zero i w = λ u e. loud_stop _ u e
duties_rest S k (suc f) i w = or_rests S k i w (slice_get w.duties i) (visit_duties S k f (suc i)) refl (duties_rest S k f (suc i))

abbrev Over : List Span → Work → Type 0
Over l w = (t : Span) → t ∈ l → SpanRest w t.serial t.opening

spans_rest : (l : List Span) (w : Work) → Rests w (visit_spans l w) (Over l w)
spans_rest [] w = says w _ _ _ (λ _ t q. elim q [ ]) (quiet w)
spans_rest (x ∷ l) w = says w _ _ _ (λ h t q. by h t q) (then_rests w _ (visit_spans l) _ (Over l) (opened_rests w x.serial x.opening) (spans_rest l))
  where
    by : (SpanRest w x.serial x.opening) × (Over l w) → (t : Span) → t ∈ (x ∷ l) → SpanRest w t.serial t.opening
    by h t (here e) = subst (λ z. SpanRest w z.serial z.opening) (sym e) h.0
    by h t (there q) = h.1 t q

pub pass_rests : (S : Setting) (k : ℕ) (w : Work) → Rests w (pass S k w) (Rest S k w)
pass_rests S k w = says w _ _ _ (λ h. record { of_duty = λ d q. let r = in_nth q in h.0 r.0 d (omega arith) r.1; of_span = h.1 })
    (then_rests w _ (λ u. visit_spans u.spans u) _ (λ u. Over u.spans u) (duties_rest S k pass_fuel 0 w) (λ u. spans_rest u.spans u))
