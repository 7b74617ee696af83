-- A duty, or a span, that can have no further effect in this state.
use Rattle.std.proofs.Common.{◌≡◌, ℕ, zero, suc, true, false, cond, ◌&&◌, ltb, ◌≢◌, List, length, ℤ, pos, negsuc, Some, None, Option, refl, ap, ◌∙◌, subst}
use Rattle.std.proofs.lemmas.Bool.{or_left, or_right, cond-true}
use Rattle.sheet.specs.declared.elements.Statement.{Statement}
use Rattle.sheet.specs.declared.elements.Statement.TheVariants.{True, False, Empty, More, Is, And, If, Next, Always, Halt, Len, Gets, Chop, For, While, Request}
use Rattle.value.specs.declared.end.End.{End}
use Rattle.value.specs.declared.end.End.TheVariants.{Unknown, On, Last}
use Rattle.value.specs.Values.{truth, equal_numbers}
use Rattle.meaning.specs.declared.duties.Duty.{Duty}
use Rattle.meaning.specs.declared.duties.Opening.{Opening}
use Rattle.meaning.specs.declared.duties.Stop.TheVariants.{Contradiction}
use Rattle.meaning.specs.Intervals.{Setting}
use Rattle.meaning.specs.Work.{Work, Outcome, stops, goes, unchanged, also, and_then, plain, numbered, same_duty, has_duty, has_opened}
use Rattle.meaning.specs.Effects.{most_duties, most_spans, with_duty, with_later, with_span, if_room, give_by, give, put_by, put, add, carry, open_span}
use Rattle.meaning.specs.Rules.{known_for, once_known, when_on, chop_opening, for_opening, while_opening, halt_rule, len_rule, gets_rule, for_rule, while_rule, rule}
use Rattle.meaning.specs.WellFormed.{◌∈◌, here, there, IsEnded}
use Rattle.meaning.proofs.Tests.{same-itself, duty_itself, Stands, stands_has, truth_yes, truth_no, zero_or_not}
use Rattle.meaning.proofs.Rest.{LenRest, Shows}

-- what a `for` with a number, a `halt` and a `while` have done
abbrev pub ForSpent : Duty → Work → ℕ → ℤ → Type 0
ForSpent d w p (pos zero) = w.ends d.span ≡ Last
ForSpent d w p (pos (suc n)) = Stands (for_opening d p n) w.spans
ForSpent d w p (negsuc n) = w.ends d.span ≡ Last

abbrev pub HaltSpent : Duty → Work → ℤ → Type 0
HaltSpent d w v = (v ≢ pos 0 → w.ends d.span ≡ Last) × (v ≡ pos 0 → (w.ends d.span ≡ On) × (d ∈ w.later))

abbrev pub WhileSpent : Duty → Work → ℕ → ℤ → Type 0
WhileSpent d w p v = (v ≢ pos 0 → Stands (while_opening d p) w.spans) × (v ≡ pos 0 → w.ends d.span ≡ Last)

-- the visit of a duty has had its whole effect
abbrev pub Spent : Setting → ℕ → Duty → Work → Statement → Option ℤ → Type 0
Spent S k d w True o = Unit {0}
Spent S k d w False o = ⊥
Spent S k d w Empty o = w.ends d.span ≡ Last
Spent S k d w More o = w.ends d.span ≡ On
Spent S k d w (Is x e) o = (v : ℤ) × Shows S d w e v × (w.known x ≡ Some v)
Spent S k d w (And p q) o = (plain p d.span ∈ w.duties) × (plain q d.span ∈ w.duties)
Spent S k d w (If e p q) o = (v : ℤ) × Shows S d w e v × (plain (cond (truth v) p q) d.span ∈ w.duties)
Spent S k d w (Next p) o = (w.ends d.span ≡ On) × (plain p d.span ∈ w.later)
Spent S k d w (Always p) o = (plain p d.span ∈ w.duties) × (IsEnded (w.ends d.span) × (w.ends d.span ≡ On → d ∈ w.later))
Spent S k d w (Halt e) o = (v : ℤ) × Shows S d w e v × HaltSpent d w v
Spent S k d w (Len e) None = (v : ℤ) × Shows S d w e v × LenRest d w v
Spent S k d w (Len e) (Some c) = LenRest d w c
Spent S k d w (Gets x e) None = (w.ends d.span ≡ On) × ((v : ℤ) × Shows S d w e v × (numbered d.statement v d.span ∈ w.later) × (d ∈ w.later))
Spent S k d w (Gets x e) (Some v) = w.known x ≡ Some v
Spent S k d w (Chop p q) o = Stands (chop_opening d p q) w.spans
Spent S k d w (For e p) None = (v : ℤ) × Shows S d w e v × (numbered d.statement v d.span ∈ w.duties)
Spent S k d w (For e p) (Some c) = ForSpent d w p c
Spent S k d w (While e p) o = (v : ℤ) × Shows S d w e v × WhileSpent d w p v
Spent S k d w (Request x) o = (v : ℤ) → S.readings x k ≡ Some v → w.known x ≡ Some v

-- to do a thing again changes nothing
give-again : (S : Setting) (p x : ℕ) (v : ℤ) (w : Work) → w.known x ≡ Some v → give S p x v w ≡ goes w false
give-again S p x v w e = ap (λ (q : Option ℤ). give_by S p q x v w) e ∙ cond-true (equal_numbers v v) (unchanged w) (stops (Contradiction p)) (same-itself v)

pub put-again : (p : ℕ) (e : End) (s : ℕ) (w : Work) → w.ends s ≡ e → IsEnded e → put p e s w ≡ goes w false
put-again p Unknown s w h i = absurd i
put-again p On s w h i = ap (λ c. put_by p c On s w) h
put-again p Last s w h i = ap (λ c. put_by p c Last s w) h

in_has : {d : Duty} {l : List Duty} → d ∈ l → has_duty d l ≡ true
in_has {d} (here {x = x} {l = l} e) = or_left (same_duty d x) (has_duty d l) (subst (λ z. same_duty d z ≡ true) e (duty_itself d))
in_has {d} (there {x = x} {l = l} q) = or_right (same_duty d x) (has_duty d l) (in_has q)

pub add-again : (d : Duty) (w : Work) → d ∈ w.duties → add d w ≡ goes w false
add-again d w q = cond-true (has_duty d w.duties) (unchanged w) (if_room (ltb (length w.duties) most_duties) (with_duty d w)) (in_has q)

carry-again : (d : Duty) (w : Work) → d ∈ w.later → carry d w ≡ goes w false
carry-again d w q = cond-true (has_duty d w.later) (unchanged w) (if_room (ltb (length w.later) most_duties) (with_later d w)) (in_has q)

open_again : (g : Opening) (w : Work) → Stands g w.spans → open_span g w ≡ goes w false
open_again g w h =
    cond-true (has_opened g w.spans) (unchanged w) (if_room (ltb (length w.spans) most_spans && ltb (length w.duties) most_duties) (with_span g w)) (stands_has h)

pub then_again : (o : Outcome) (f : Work → Outcome) (w : Work) → o ≡ goes w false → f w ≡ goes w false → and_then o f ≡ goes w false
then_again o f w e h = ap (λ z. and_then z f) e ∙ ap (also false) h

once_again : (q : Option ℤ) (f : ℤ → Work → Outcome) (w : Work) (v : ℤ) → q ≡ Some v → f v w ≡ goes w false → once_known q f w ≡ goes w false
once_again q f w v e h = ap (λ z. once_known z f w) e ∙ h

-- what is done only with a known number, or only where a span is on, changes nothing if it changes nothing there
once_only : (q : Option ℤ) (f : ℤ → Work → Outcome) (w : Work) → ((v : ℤ) → q ≡ Some v → f v w ≡ goes w false) → once_known q f w ≡ goes w false
once_only None f w h = refl
once_only (Some v) f w h = h v refl

on_only : (c : End) (f : Work → Outcome) (w : Work) → (c ≡ On → f w ≡ goes w false) → when_on c f w ≡ goes w false
on_only Unknown f w h = refl
on_only On f w h = h refl
on_only Last f w h = refl

truth_again : (v : ℤ) (a b : Outcome) (w : Work) → (v ≢ pos 0 → a ≡ goes w false) → (v ≡ pos 0 → b ≡ goes w false) → cond (truth v) a b ≡ goes w false
truth_again v a b w h k = by (zero_or_not v)
  where
    by : Dec (v ≡ pos 0) → cond (truth v) a b ≡ goes w false
    by (yes z) = truth_no v a b z ∙ k z
    by (no z) = truth_yes v a b z ∙ h z

on_again : (p s : ℕ) (d : Duty) (w : Work) → (w.ends s ≡ On) × (d ∈ w.later) → and_then (put p On s w) (carry d) ≡ goes w false
on_again p s d w h = then_again (put p On s w) (carry d) w (put-again p On s w h.0 tt) (carry-again d w h.1)

len_again : (d : Duty) (c : ℤ) (w : Work) → LenRest d w c → len_rule d c w ≡ goes w false
len_again d (pos zero) w h = put-again d.statement Last d.span w h tt
len_again d (pos (suc n)) w h = on_again d.statement d.span (numbered d.statement (pos n) d.span) w h
len_again d (negsuc n) w h = absurd h

for_again : (d : Duty) (p : ℕ) (c : ℤ) (w : Work) → ForSpent d w p c → for_rule d p c w ≡ goes w false
for_again d p (pos zero) w h = put-again d.statement Last d.span w h tt
for_again d p (pos (suc n)) w h = open_again (for_opening d p n) w h
for_again d p (negsuc n) w h = put-again d.statement Last d.span w h tt

-- a spent duty is visited in vain
pub rule-again : (S : Setting) (k : ℕ) (d : Duty) (w : Work) (st : Statement) (o : Option ℤ) → Spent S k d w st o → rule S k st o d w ≡ goes w false
rule-again S k d w True o h = refl
rule-again S k d w False o h = absurd h
rule-again S k d w Empty o h = put-again d.statement Last d.span w h tt
rule-again S k d w More o h = put-again d.statement On d.span w h tt
rule-again S k d w (Is x e) o h = once_again (known_for S w d e) (give S d.statement x) w h.0 h.1 (give-again S d.statement x h.0 w h.2)
rule-again S k d w (And p q) o h = then_again (add (plain p d.span) w) (add (plain q d.span)) w (add-again (plain p d.span) w h.0) (add-again (plain q d.span) w h.1)
rule-again S k d w (If e p q) o h = once_again (known_for S w d e) (λ v. add (plain (cond (truth v) p q) d.span)) w h.0 h.1 (add-again (plain (cond (truth h.0) p q) d.span) w h.2)
rule-again S k d w (Next p) o h = on_again d.statement d.span (plain p d.span) w h
rule-again S k d w (Always p) o h = then_again (add (plain p d.span) w) (λ u. when_on (u.ends d.span) (carry d) u) w (add-again (plain p d.span) w h.0) (on_only (w.ends d.span) (carry d) w (λ e. carry-again d w (h.1.1 e)))
rule-again S k d w (Halt e) o h =
    once_again (known_for S w d e) (halt_rule d) w h.0 h.1
    (truth_again h.0 (put d.statement Last d.span w) (and_then (put d.statement On d.span w) (carry d)) w (λ n. put-again d.statement Last d.span w (h.2.0 n) tt) (λ z. on_again d.statement d.span d w (h.2.1 z)))
rule-again S k d w (Len e) None h = once_again (known_for S w d e) (len_rule d) w h.0 h.1 (len_again d h.0 w h.2)
rule-again S k d w (Len e) (Some c) h = len_again d c w h
rule-again S k d w (Gets x e) None h =
    on_only (w.ends d.span) (once_known (known_for S w d e) (gets_rule d)) w
    (λ _. once_again (known_for S w d e) (gets_rule d) w h.1.0 h.1.1
    (then_again (carry (numbered d.statement h.1.0 d.span) w) (carry d) w (carry-again (numbered d.statement h.1.0 d.span) w h.1.2) (carry-again d w h.1.3)))
rule-again S k d w (Gets x e) (Some v) h = give-again S d.statement x v w h
rule-again S k d w (Chop p q) o h = open_again (chop_opening d p q) w h
rule-again S k d w (For e p) None h = once_again (known_for S w d e) (λ c. add (numbered d.statement c d.span)) w h.0 h.1 (add-again (numbered d.statement h.0 d.span) w h.2)
rule-again S k d w (For e p) (Some c) h = for_again d p c w h
rule-again S k d w (While e p) o h =
    once_again (known_for S w d e) (while_rule d p) w h.0 h.1
    (truth_again h.0 (open_span (while_opening d p) w) (put d.statement Last d.span w) w (λ n. open_again (while_opening d p) w (h.2.0 n)) (λ z. put-again d.statement Last d.span w (h.2.1 z) tt))
rule-again S k d w (Request x) o h = once_only (S.readings x k) (give S d.statement x) w (λ v e. give-again S d.statement x v w (h v e))
