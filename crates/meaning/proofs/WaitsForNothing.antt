-- What is spent stays spent, and a visit that waits for nothing spends its duty.
use Rattle.std.proofs.Common.{◌≡◌, ℕ, zero, suc, ◌<◌, Bool, true, false, cond, not, ◌&&◌, ltb, ◌≢◌, length, ℤ, pos, negsuc, Some, None, Option, is_none, sym, refl, ap, ◌∙◌, subst, arith}
use Rattle.std.proofs.lemmas.Bool.{cond_both, true≢false}
use Rattle.sheet.specs.declared.elements.Statement.{Statement}
use Rattle.sheet.specs.declared.elements.Statement.TheVariants.{True, False, Empty, More, Is, And, If, Next, Always, Halt, Len, Gets, Chop, For, While, Request}
use Rattle.value.specs.declared.end.End.{End}
use Rattle.value.specs.declared.end.End.TheVariants.{Unknown, On, Last}
use Rattle.value.specs.Values.{truth, equal_numbers}
use Rattle.meaning.specs.declared.duties.Duty.{Duty}
use Rattle.meaning.specs.declared.duties.Opening.{Opening}
use Rattle.meaning.specs.declared.duties.Stop.TheVariants.{Contradiction}
use Rattle.meaning.specs.Intervals.{Setting, value_fits}
use Rattle.meaning.specs.Work.{Work, Outcome, stops, goes, unchanged, changed, also, and_then, plain, numbered, has_duty, has_opened}
use Rattle.meaning.specs.Effects.{most_duties, most_spans, with_value, with_duty, with_later, with_span, if_room, give_by, give, put_by, put, add, carry, open_span}
use Rattle.meaning.specs.Rules.{known_for, once_known, when_on, chop_opening, for_opening, while_opening, halt_rule, len_rule, gets_rule, for_rule, while_rule, rule}
use Rattle.meaning.specs.Runs.{is_ended}
use Rattle.meaning.specs.WellFormed.{◌∈◌, IsEnded, Extends}
use Rattle.meaning.specs.Waiting.{till_on, rule_waits}
use Rattle.meaning.proofs.Lists.{none_some, ∈_end, set_same}
use Rattle.meaning.proofs.Tests.{same_true, has_in, Stands, has_opened_says, on_last, truth_yes, truth_no, zero_or_not}
use Rattle.meaning.proofs.Rest.{LenRest, Shows}
use Rattle.meaning.proofs.VisitsKeep.{OfWork, kept_then, kept_when, kept_truth, kept_on, kept_len}
use Rattle.meaning.proofs.Extending.{later_refl, later_duty, later_span, later_kept, end_stays, shows_later}
use Rattle.meaning.proofs.NoFurtherEffect.{ForSpent, HaltSpent, WhileSpent, Spent}

stands_later : {w u : Work} {g : Opening} → Extends w u → Stands g w.spans → Stands g u.spans
stands_later h s = record { span = s.span; inside = later_span h s.inside; opened = s.opened; newly = s.newly }

module _ (S : Setting) (k : ℕ) (d : Duty) (w u : Work) (h : Extends w u) (l : d.span < w.next) where
  last_stays : w.ends d.span ≡ Last → u.ends d.span ≡ Last
  last_stays e = end_stays d.span Last h l e tt

  on_stays : w.ends d.span ≡ On → u.ends d.span ≡ On
  on_stays e = end_stays d.span On h l e tt

  both_stay : {c : Duty} → (w.ends d.span ≡ On) × (c ∈ w.later) → (u.ends d.span ≡ On) × (c ∈ u.later)
  both_stay {c} p = (on_stays p.0, h.carried c p.1)

  len_stays : (c : ℤ) → LenRest d w c → LenRest d u c
  len_stays (pos zero) p = last_stays p
  len_stays (pos (suc n)) p = both_stay p
  len_stays (negsuc n) p = p

  for_stays : (p : ℕ) (c : ℤ) → ForSpent d w p c → ForSpent d u p c
  for_stays p (pos zero) q = last_stays q
  for_stays p (pos (suc n)) q = stands_later h q
  for_stays p (negsuc n) q = last_stays q

  -- what is spent stays spent
  pub spent_later : (st : Statement) (o : Option ℤ) → Spent S k d w st o → Spent S k d u st o
  spent_later True o p = tt
  spent_later False o p = p
  spent_later Empty o p = last_stays p
  spent_later More o p = on_stays p
  spent_later (Is x e) o p = (p.0, shows_later S d w u e p.0 h l p.1, h.knowns x p.0 p.2)
  spent_later (And a b) o p = (later_duty h p.0, later_duty h p.1)
  spent_later (If e a b) o p = (p.0, shows_later S d w u e p.0 h l p.1, later_duty h p.2)
  spent_later (Next a) o p = both_stay p
  spent_later (Always a) o p =
      let e : u.ends d.span ≡ w.ends d.span = h.ends d.span l p.1.0 in
      (later_duty h p.0, (subst IsEnded (sym e) p.1.0, λ n. h.carried d (p.1.1 (sym e ∙ n))))
  spent_later (Halt e) o p = (p.0, shows_later S d w u e p.0 h l p.1, ((λ n. last_stays (p.2.0 n)), (λ z. both_stay (p.2.1 z))))
  spent_later (Len e) None p = (p.0, shows_later S d w u e p.0 h l p.1, len_stays p.0 p.2)
  spent_later (Len e) (Some c) p = len_stays c p
  spent_later (Gets x e) None p = (on_stays p.0, (p.1.0, shows_later S d w u e p.1.0 h l p.1.1, h.carried _ p.1.2, h.carried d p.1.3))
  spent_later (Gets x e) (Some v) p = h.knowns x v p
  spent_later (Chop a b) o p = stands_later h p
  spent_later (For e a) None p = (p.0, shows_later S d w u e p.0 h l p.1, later_duty h p.2)
  spent_later (For e a) (Some c) p = for_stays a c p
  spent_later (While e a) o p = (p.0, shows_later S d w u e p.0 h l p.1, ((λ n. stands_later h (p.2.0 n)), (λ z. last_stays (p.2.1 z))))
  spent_later (Request x) o p = λ v e. h.knowns x v (p v e)

-- after it is done, a thing is so
pub add_does : (d : Duty) (w : Work) → OfWork (λ u. d ∈ u.duties) (add d w)
add_does d w =
    let room : Bool = ltb (length w.duties) most_duties in
    cond_both (has_duty d w.duties) (unchanged w) (if_room room (with_duty d w)) (OfWork (λ u. d ∈ u.duties)) (λ e. has_in d w.duties e) (λ e. by room)
  where
    by : (b : Bool) → OfWork (λ u. d ∈ u.duties) (if_room b (with_duty d w))
    by true = ∈_end d w.duties
    by false = tt

carry_does : (d : Duty) (w : Work) → OfWork (λ u. d ∈ u.later) (carry d w)
carry_does d w =
    let room : Bool = ltb (length w.later) most_duties in
    cond_both (has_duty d w.later) (unchanged w) (if_room room (with_later d w)) (OfWork (λ u. d ∈ u.later)) (λ e. has_in d w.later e) (λ e. by room)
  where
    by : (b : Bool) → OfWork (λ u. d ∈ u.later) (if_room b (with_later d w))
    by true = ∈_end d w.later
    by false = tt

open_does : (g : Opening) (w : Work) → OfWork (λ u. Stands g u.spans) (open_span g w)
open_does g w =
    let room : Bool = ltb (length w.spans) most_spans && ltb (length w.duties) most_duties in
    cond_both (has_opened g w.spans) (unchanged w) (if_room room (with_span g w)) (OfWork (λ u. Stands g u.spans)) (λ e. has_opened_says g w.spans e) (λ e. by room)
  where
    by : (b : Bool) → OfWork (λ u. Stands g u.spans) (if_room b (with_span g w))
    by true = record { span = _; inside = ∈_end _ w.spans; opened = refl; newly = refl }
    by false = tt

put_by_does : (p : ℕ) (c e : End) (s : ℕ) (w : Work) → w.ends s ≡ c → IsEnded e → OfWork (λ u. u.ends s ≡ e) (put_by p c e s w)
put_by_does p Unknown Unknown s w n i = absurd i
put_by_does p Unknown On s w n i = set_same w.ends s On
put_by_does p Unknown Last s w n i = set_same w.ends s Last
put_by_does p On Unknown s w n i = absurd i
put_by_does p On On s w n i = n
put_by_does p On Last s w n i = tt
put_by_does p Last Unknown s w n i = absurd i
put_by_does p Last On s w n i = tt
put_by_does p Last Last s w n i = n

pub put_does : (p : ℕ) (e : End) (s : ℕ) (w : Work) → IsEnded e → OfWork (λ u. u.ends s ≡ e) (put p e s w)
put_does p e s w i = put_by_does p (w.ends s) e s w refl i

give_by_does : (S : Setting) (p : ℕ) (q : Option ℤ) (x : ℕ) (v : ℤ) (w : Work) → w.known x ≡ q → OfWork (λ u. u.known x ≡ Some v) (give_by S p q x v w)
give_by_does S p None x v w n = cond_both (value_fits S x v) (changed (with_value x v w)) (stops (Contradiction p)) (OfWork (λ u. u.known x ≡ Some v)) (λ e. set_same w.known x (Some v)) (λ e. tt)
give_by_does S p (Some a) x v w n =
    cond_both (equal_numbers a v) (unchanged w) (stops (Contradiction p)) (OfWork (λ u. u.known x ≡ Some v)) (λ e. n ∙ ap {B = Option ℤ} Some (same_true a v e)) (λ e. tt)

give_does : (S : Setting) (p x : ℕ) (v : ℤ) (w : Work) → OfWork (λ u. u.known x ≡ Some v) (give S p x v w)
give_does S p x v w = give_by_does S p (w.known x) x v w refl

pub of_more : (P Q : Work → Type 0) (o : Outcome) → ((u : Work) → P u → Q u) → OfWork P o → OfWork Q o
of_more P Q (stops s) f h = h
of_more P Q (goes u c) f h = f u h

pub of_both : (P Q : Work → Type 0) (o : Outcome) → OfWork P o → OfWork Q o → OfWork (λ u. P u × Q u) o
of_both P Q (stops s) h k = h
of_both P Q (goes u c) h k = (h, k)

of_also : (P : Work → Type 0) (c : Bool) (o : Outcome) → OfWork P o → OfWork P (also c o)
of_also P c (stops s) h = h
of_also P c (goes u b) h = h

-- one thing, and then another: both are so, if the first stays so
pub of_then : (P Q R : Work → Type 0) (o : Outcome) (f : Work → Outcome) → OfWork P o → ((u : Work) → P u → OfWork Q (f u)) → ((u v : Work) → P u → Extends u v → Q v → R v) → ((u : Work) → OfWork (Extends u) (f u)) → OfWork R (and_then o f)
of_then P Q R (stops s) f h g r k = h
of_then P Q R (goes u c) f h g r k = of_also R c (f u) (of_more (λ v. Extends u v × Q v) R (f u) (λ v q. r u v h q.0 q.1) (of_both (Extends u) Q (f u) (k u) (g u h)))

-- an end that is known, by its test
ended_says : (c : End) → not (is_ended c) ≡ false → IsEnded c
ended_says Unknown n = true≢false n
ended_says On n = tt
ended_says Last n = tt

-- a thing that is done once a number is known, where it is
once_does : (P : Work → Type 0) (q : Option ℤ) (f : ℤ → Work → Outcome) (w : Work) → is_none q ≡ false → ((v : ℤ) → q ≡ Some v → OfWork P (f v w)) → OfWork P (once_known q f w)
once_does P None f w n h = absurd (true≢false n)
once_does P (Some v) f w n h = h v refl

of_truth : (P : Work → Type 0) (v : ℤ) (a b : Outcome) → (v ≢ pos 0 → OfWork P a) → (v ≡ pos 0 → OfWork P b) → OfWork P (cond (truth v) a b)
of_truth P v a b h k = by (zero_or_not v)
  where
    by : Dec (v ≡ pos 0) → OfWork P (cond (truth v) a b)
    by (yes z) = subst (OfWork P) (sym (truth_no v a b z)) (k z)
    by (no z) = subst (OfWork P) (sym (truth_yes v a b z)) (h z)

module _ (S : Setting) (k : ℕ) (d : Duty) (w : Work) (l : d.span < w.next) where
  -- a thing that is done with a number that is known
  with_number : (e : ℕ) (v : ℤ) (P Q : Work → Type 0) (o : Outcome) → Shows S d w e v → OfWork (Extends w) o → OfWork P o → ((u : Work) → Shows S d u e v → P u → Q u) → OfWork Q o
  with_number e v P Q o s h p f = of_more (λ u. Extends w u × P u) Q o (λ u r. f u (shows_later S d w u e v r.0 l s) r.1) (of_both (Extends w) P o h p)

  on_does : (c : Duty) → OfWork (λ u. (u.ends d.span ≡ On) × (c ∈ u.later)) (and_then (put d.statement On d.span w) (carry c))
  on_does c =
      of_then (λ u. (u.ends d.span ≡ On) × (d.span < u.next)) (λ u. c ∈ u.later) (λ u. (u.ends d.span ≡ On) × (c ∈ u.later)) (put d.statement On d.span w) (carry c)
      (of_more (λ u. Extends w u × (u.ends d.span ≡ On)) (λ u. (u.ends d.span ≡ On) × (d.span < u.next)) (put d.statement On d.span w) (λ u r. (r.1, omega (arith, l, r.0.serials)))
      (of_both (Extends w) (λ u. u.ends d.span ≡ On) (put d.statement On d.span w) ((later_kept S w).puts d.statement On d.span w (later_refl w)) (put_does d.statement On d.span w tt)))
      (λ u h. carry_does c u) (λ u v h n q. (end_stays d.span On n h.1 h.0 tt, q)) (λ u. (later_kept S u).carries c u (later_refl u))

  len_does : (c : ℤ) → OfWork (λ u. LenRest d u c) (len_rule d c w)
  len_does (pos zero) = put_does d.statement Last d.span w tt
  len_does (pos (suc n)) = on_does (numbered d.statement (pos n) d.span)
  len_does (negsuc n) = tt

  for_does : (p : ℕ) (c : ℤ) → OfWork (λ u. ForSpent d u p c) (for_rule d p c w)
  for_does p (pos zero) = put_does d.statement Last d.span w tt
  for_does p (pos (suc n)) = open_does (for_opening d p n) w
  for_does p (negsuc n) = put_does d.statement Last d.span w tt

  halt_does : (v : ℤ) → OfWork (λ u. HaltSpent d u v) (halt_rule d v w)
  halt_does v =
      of_truth (λ u. HaltSpent d u v) v (put d.statement Last d.span w) (and_then (put d.statement On d.span w) (carry d))
      (λ n. of_more (λ u. u.ends d.span ≡ Last) (λ u. HaltSpent d u v) (put d.statement Last d.span w) (λ u e. ((λ _. e), (λ z. absurd (n z)))) (put_does d.statement Last d.span w tt))
      (λ z. of_more (λ u. (u.ends d.span ≡ On) × (d ∈ u.later)) (λ u. HaltSpent d u v) (and_then (put d.statement On d.span w) (carry d)) (λ u e. ((λ n. absurd (n z)), (λ _. e))) (on_does d))

  while_does : (p : ℕ) (v : ℤ) → OfWork (λ u. WhileSpent d u p v) (while_rule d p v w)
  while_does p v =
      of_truth (λ u. WhileSpent d u p v) v (open_span (while_opening d p) w) (put d.statement Last d.span w)
      (λ n. of_more (λ u. Stands (while_opening d p) u.spans) (λ u. WhileSpent d u p v) (open_span (while_opening d p) w) (λ u e. ((λ _. e), (λ z. absurd (n z)))) (open_does (while_opening d p) w))
      (λ z. of_more (λ u. u.ends d.span ≡ Last) (λ u. WhileSpent d u p v) (put d.statement Last d.span w) (λ u e. ((λ n. absurd (n z)), (λ _. e))) (put_does d.statement Last d.span w tt))

  gets_does : (v : ℤ) → OfWork (λ u. (numbered d.statement v d.span ∈ u.later) × (d ∈ u.later)) (gets_rule d v w)
  gets_does v =
      of_then (λ u. numbered d.statement v d.span ∈ u.later) (λ u. d ∈ u.later) (λ u. (numbered d.statement v d.span ∈ u.later) × (d ∈ u.later)) (carry (numbered d.statement v d.span) w) (carry d)
      (carry_does (numbered d.statement v d.span) w) (λ u h. carry_does d u) (λ u z h n q. (n.carried _ h, q)) (λ u. (later_kept S u).carries d u (later_refl u))

  gets_spends : (x e : ℕ) (c : End) → w.ends d.span ≡ c → till_on c (is_none (known_for S w d e)) ≡ false → OfWork (λ u. Spent S k d u (Gets x e) None) (when_on c (once_known (known_for S w d e) (gets_rule d)) w)
  gets_spends x e Unknown n m = absurd (true≢false m)
  gets_spends x e On n m =
      once_does (λ u. Spent S k d u (Gets x e) None) (known_for S w d e) (gets_rule d) w m
      (λ v s. of_more (λ u. Extends w u × ((numbered d.statement v d.span ∈ u.later) × (d ∈ u.later))) (λ u. Spent S k d u (Gets x e) None) (gets_rule d v w)
      (λ u r. (end_stays d.span On r.0 l n tt, (v, shows_later S d w u e v r.0 l s, r.1.0, r.1.1)))
      (of_both (Extends w) (λ u. (numbered d.statement v d.span ∈ u.later) × (d ∈ u.later)) (gets_rule d v w)
      (kept_then S (Extends w) (later_kept S w) (carry (numbered d.statement v d.span) w) (carry d) ((later_kept S w).carries (numbered d.statement v d.span) w (later_refl w)) ((later_kept S w).carries d)) (gets_does v)))
  gets_spends x e Last n m = absurd (true≢false m)

  -- where the end of a duty's span is known, the duty is carried if the span is on
  carried_if_on : (u : Work) (c : End) → d.span < u.next → u.ends d.span ≡ c → IsEnded c → OfWork (λ v. IsEnded (v.ends d.span) × (v.ends d.span ≡ On → d ∈ v.later)) (when_on c (carry d) u)
  carried_if_on u Unknown m e i = absurd i
  carried_if_on u On m e i =
      of_more (λ v. Extends u v × (d ∈ v.later)) (λ v. IsEnded (v.ends d.span) × (v.ends d.span ≡ On → d ∈ v.later)) (carry d u) (λ v r. (subst IsEnded (sym (end_stays d.span On r.0 m e tt)) tt, λ _. r.1))
      (of_both (Extends u) (λ v. d ∈ v.later) (carry d u) ((later_kept S u).carries d u (later_refl u)) (carry_does d u))
  carried_if_on u Last m e i = (subst IsEnded (sym e) tt, λ n. absurd (on_last (sym n ∙ e)))

  -- after a thing is done, what is known of the end is still known, and the span is still older than the next
  still_ended : (P : Work → Type 0) (o : Outcome) → IsEnded (w.ends d.span) → OfWork (Extends w) o → OfWork P o → OfWork (λ u. P u × (IsEnded (u.ends d.span) × (d.span < u.next))) o
  still_ended P o i h p = of_more (λ u. Extends w u × P u) (λ u. P u × (IsEnded (u.ends d.span) × (d.span < u.next))) o (λ u r. (r.1, (subst IsEnded (sym (r.0.ends d.span l i)) i, omega (arith, l, r.0.serials)))) (of_both (Extends w) P o h p)

  -- a visit that waits for nothing spends its duty
  pub rule_spends : (st : Statement) (o : Option ℤ) → rule_waits S st o d w ≡ false → OfWork (λ u. Spent S k d u st o) (rule S k st o d w)
  rule_spends True o n = tt
  rule_spends False o n = tt
  rule_spends Empty o n = put_does d.statement Last d.span w tt
  rule_spends More o n = put_does d.statement On d.span w tt
  rule_spends (Is x e) o n =
      once_does _ (known_for S w d e) (give S d.statement x) w n
      (λ v s. with_number e v (λ u. u.known x ≡ Some v) (λ u. Spent S k d u (Is x e) o) (give S d.statement x v w) s ((later_kept S w).gives d.statement x v w (later_refl w)) (give_does S d.statement x v w) (λ u t q. (v, t, q)))
  rule_spends (And p q) o n =
      of_then (λ u. plain p d.span ∈ u.duties) (λ u. plain q d.span ∈ u.duties) (λ u. Spent S k d u (And p q) o) (add (plain p d.span) w) (add (plain q d.span))
      (add_does (plain p d.span) w) (λ u h. add_does (plain q d.span) u) (λ u v h m r. (later_duty m h, r)) (λ u. (later_kept S u).adds (plain q d.span) u (later_refl u))
  rule_spends (If e p q) o n =
      once_does _ (known_for S w d e) (λ v. add (plain (cond (truth v) p q) d.span)) w n
      (λ v s. let c : Duty = plain (cond (truth v) p q) d.span in with_number e v (λ u. c ∈ u.duties) (λ u. Spent S k d u (If e p q) o) (add c w) s ((later_kept S w).adds c w (later_refl w)) (add_does c w) (λ u t r. (v, t, r)))
  rule_spends (Next p) o n = on_does (plain p d.span)
  rule_spends (Always p) o n =
      of_then (λ u. (plain p d.span ∈ u.duties) × (IsEnded (u.ends d.span) × (d.span < u.next))) (λ u. IsEnded (u.ends d.span) × (u.ends d.span ≡ On → d ∈ u.later)) (λ u. Spent S k d u (Always p) o)
      (add (plain p d.span) w) (λ u. when_on (u.ends d.span) (carry d) u)
      (still_ended (λ u. plain p d.span ∈ u.duties) (add (plain p d.span) w) (ended_says (w.ends d.span) n) ((later_kept S w).adds (plain p d.span) w (later_refl w)) (add_does (plain p d.span) w))
      (λ u h. carried_if_on u (u.ends d.span) h.1.1 refl h.1.0) (λ u v h m r. (later_duty m h.0, r)) (λ u. kept_when S (Extends u) (later_kept S u) (u.ends d.span) (carry d) u (later_refl u) ((later_kept S u).carries d u (later_refl u)))
  rule_spends (Halt e) o n =
      once_does _ (known_for S w d e) (halt_rule d) w n
      (λ v s. with_number e v (λ u. HaltSpent d u v) (λ u. Spent S k d u (Halt e) o) (halt_rule d v w) s
      (kept_truth S (Extends w) (later_kept S w) (truth v) (put d.statement Last d.span w) (and_then (put d.statement On d.span w) (carry d)) ((later_kept S w).puts d.statement Last d.span w (later_refl w)) (kept_on S (Extends w) (later_kept S w) d.statement d.span d w (later_refl w))) (halt_does v) (λ u t r. (v, t, r)))
  rule_spends (Len e) None n =
      once_does _ (known_for S w d e) (len_rule d) w n (λ v s. with_number e v (λ u. LenRest d u v) (λ u. Spent S k d u (Len e) None) (len_rule d v w) s (kept_len S (Extends w) (later_kept S w) d v w (later_refl w)) (len_does v) (λ u t r. (v, t, r)))
  rule_spends (Len e) (Some c) n = len_does c
  rule_spends (Gets x e) None n = gets_spends x e (w.ends d.span) refl n
  rule_spends (Gets x e) (Some v) n = give_does S d.statement x v w
  rule_spends (Chop p q) o n = open_does (chop_opening d p q) w
  rule_spends (For e p) None n =
      once_does _ (known_for S w d e) (λ c. add (numbered d.statement c d.span)) w n
      (λ v s. let c : Duty = numbered d.statement v d.span in with_number e v (λ u. c ∈ u.duties) (λ u. Spent S k d u (For e p) None) (add c w) s ((later_kept S w).adds c w (later_refl w)) (add_does c w) (λ u t r. (v, t, r)))
  rule_spends (For e p) (Some c) n = for_does p c
  rule_spends (While e p) o n =
      once_does _ (known_for S w d e) (while_rule d p) w n
      (λ v s. with_number e v (λ u. WhileSpent d u p v) (λ u. Spent S k d u (While e p) o) (while_rule d p v w) s
      (kept_truth S (Extends w) (later_kept S w) (truth v) (open_span (while_opening d p) w) (put d.statement Last d.span w) ((later_kept S w).opens (while_opening d p) w (later_refl w)) ((later_kept S w).puts d.statement Last d.span w (later_refl w))) (while_does p v) (λ u t r. (v, t, r)))
  rule_spends (Request x) o n = read (S.readings x k)
    where
      read : (q : Option ℤ) → OfWork (λ u. (v : ℤ) → q ≡ Some v → u.known x ≡ Some v) (once_known q (give S d.statement x) w)
      read None = λ v e. absurd (none_some v e)
      read (Some a) = of_more (λ u. u.known x ≡ Some a) (λ u. (v : ℤ) → Some a ≡ Some v → u.known x ≡ Some v) (give S d.statement x a w) (λ u r v e. r ∙ e) (give_does S d.statement x a w)
