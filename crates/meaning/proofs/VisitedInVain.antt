-- A duty and a span whose visits wait for nothing are visited in vain for the rest of the state.
use Rattle.std.proofs.Common.{◌≡◌, ℕ, ◌<◌, Bool, true, false, ◌⊎◌, Some, None, Option, sym, refl, ap, ◌∙◌, subst, inl, inr, arith}
use Rattle.std.proofs.lemmas.Bool.{true≢false, not-false}
use Rattle.value.specs.declared.end.End.{End}
use Rattle.value.specs.declared.end.End.TheVariants.{Unknown, On, Last}
use Rattle.meaning.specs.declared.duties.Duty.{Duty}
use Rattle.meaning.specs.declared.duties.Opening.{Opening}
use Rattle.meaning.specs.declared.duties.Span.{Span}
use Rattle.meaning.specs.Intervals.{Setting, statement_at}
use Rattle.meaning.specs.Work.{Work, Outcome, stops, goes, also, and_then}
use Rattle.meaning.specs.Effects.{put, add}
use Rattle.meaning.specs.Rules.{visit, inherit_last, give_on, visit_opened, visit_span}
use Rattle.meaning.specs.WellFormed.{◌∈◌, Extends}
use Rattle.meaning.specs.Runs.{is_ended}
use Rattle.meaning.specs.Waiting.{waits, opened_waits, span_waits}
use Rattle.meaning.proofs.VisitsKeep.{OfWork, kept_hand}
use Rattle.meaning.proofs.Extending.{later_refl, later_duty, later_kept, end_stays}
use Rattle.meaning.proofs.NoFurtherEffect.{Spent, put-again, add-again, then_again, rule-again}
use Rattle.meaning.proofs.WaitsForNothing.{spent_later, add_does, put_does, of_more, of_both, of_then, rule_spends}

-- a span that can have no further effect: it is on and has told so, or it is last and has added what follows it
abbrev SpanSpent : Work → ℕ → Option Opening → Type 0
SpanSpent w s None = Unit {0}
SpanSpent w s (Some g) = ((w.ends s ≡ On) × (w.ends g.follower.span ≡ On)) ⊎ ((w.ends s ≡ Last) × (g.follower ∈ w.duties))

take_again : (c : End) (p s : ℕ) (w : Work) → w.ends s ≡ Last → inherit_last c p s w ≡ goes w false
take_again Unknown p s w e = refl
take_again On p s w e = refl
take_again Last p s w e = put-again p Last s w e tt

span_again : (w : Work) (s : ℕ) (q : Option Opening) → SpanSpent w s q → visit_opened q s w ≡ goes w false
span_again w s None h = refl
span_again w s (Some g) (inl h) =
    then_again (inherit_last (w.ends g.follower.span) g.by s w) (λ u. give_on (u.ends s) g u) w (ap (λ c. inherit_last c g.by s w) h.1) (ap (λ c. give_on c g w) h.0 ∙ put-again g.by On g.follower.span w h.1 tt)
span_again w s (Some g) (inr h) =
    then_again (inherit_last (w.ends g.follower.span) g.by s w) (λ u. give_on (u.ends s) g u) w (take_again (w.ends g.follower.span) g.by s w h.0) (ap (λ c. give_on c g w) h.0 ∙ add-again g.follower w h.1)

-- the outer span has a lower serial
abbrev pub Inside : ℕ → ℕ → Option Opening → Type 0
Inside n s None = Unit {0}
Inside n s (Some g) = (s < n) × (g.follower.span < n)

span_later : (w u : Work) (s : ℕ) (q : Option Opening) → Extends w u → Inside w.next s q → SpanSpent w s q → SpanSpent u s q
span_later w u s None h l p = tt
span_later w u s (Some g) h l (inl p) = inl (end_stays s On h l.0 p.0 tt, end_stays g.follower.span On h l.1 p.1 tt)
span_later w u s (Some g) h l (inr p) = inr (end_stays s Last h l.0 p.0 tt, later_duty h p.1)

-- an outcome after which the end of s is known says P
abbrev OnEnd : (Work → Type 0) → ℕ → Outcome → Type 0
OnEnd P s (stops x) = Unit {0}
OnEnd P s (goes u c) = is_ended (u.ends s) ≡ true → P u

ended_so : (P : Work → Type 0) (s : ℕ) (o : Outcome) → OfWork P o → OnEnd P s o
ended_so P s (stops x) h = tt
ended_so P s (goes u c) h = λ _. h

also_end : (P : Work → Type 0) (s : ℕ) (o : Outcome) → OnEnd P s o → OnEnd P s (also false o)
also_end P s (stops x) h = tt
also_end P s (goes u c) h = h

hand_end : (S : Setting) (w : Work) (s : ℕ) (g : Opening) (c : End) → s < w.next → w.ends s ≡ c → OnEnd (λ u. SpanSpent u s (Some g)) s (give_on c g w)
hand_end S w s g Unknown l e = λ h. absurd (true≢false (sym h ∙ ap is_ended e))
hand_end S w s g On l e =
    ended_so _ s (put g.by On g.follower.span w)
    (of_more (λ u. Extends w u × (u.ends g.follower.span ≡ On)) (λ u. SpanSpent u s (Some g)) (put g.by On g.follower.span w) (λ u r. inl (end_stays s On r.0 l e tt, r.1))
    (of_both (Extends w) (λ u. u.ends g.follower.span ≡ On) (put g.by On g.follower.span w) ((later_kept S w).puts g.by On g.follower.span w (later_refl w)) (put_does g.by On g.follower.span w tt)))
hand_end S w s g Last l e =
    ended_so _ s (add g.follower w)
    (of_more (λ u. Extends w u × (g.follower ∈ u.duties)) (λ u. SpanSpent u s (Some g)) (add g.follower w) (λ u r. inr (end_stays s Last r.0 l e tt, r.1))
    (of_both (Extends w) (λ u. g.follower ∈ u.duties) (add g.follower w) ((later_kept S w).adds g.follower w (later_refl w)) (add_does g.follower w)))

hand_last : (S : Setting) (u : Work) (s : ℕ) (g : Opening) → s < u.next → u.ends s ≡ Last → OfWork (λ v. SpanSpent v s (Some g)) (give_on (u.ends s) g u)
hand_last S u s g l e =
    subst (λ c. OfWork (λ v. SpanSpent v s (Some g)) (give_on c g u)) (sym e)
    (of_more (λ v. Extends u v × (g.follower ∈ v.duties)) (λ v. SpanSpent v s (Some g)) (add g.follower u) (λ v r. inr (end_stays s Last r.0 l e tt, r.1))
    (of_both (Extends u) (λ v. g.follower ∈ v.duties) (add g.follower u) ((later_kept S u).adds g.follower u (later_refl u)) (add_does g.follower u)))

opened_end : (S : Setting) (w : Work) (s : ℕ) (g : Opening) (c : End) → s < w.next → OnEnd (λ u. SpanSpent u s (Some g)) s (and_then (inherit_last c g.by s w) (λ u. give_on (u.ends s) g u))
opened_end S w s g Unknown l = also_end _ s (give_on (w.ends s) g w) (hand_end S w s g (w.ends s) l refl)
opened_end S w s g On l = also_end _ s (give_on (w.ends s) g w) (hand_end S w s g (w.ends s) l refl)
opened_end S w s g Last l =
    ended_so _ s (and_then (put g.by Last s w) (λ u. give_on (u.ends s) g u))
    (of_then (λ u. (u.ends s ≡ Last) × (s < u.next)) (λ u. SpanSpent u s (Some g)) (λ u. SpanSpent u s (Some g)) (put g.by Last s w) (λ u. give_on (u.ends s) g u)
    (of_more (λ u. Extends w u × (u.ends s ≡ Last)) (λ u. (u.ends s ≡ Last) × (s < u.next)) (put g.by Last s w) (λ u r. (r.1, omega (arith, l, r.0.serials)))
    (of_both (Extends w) (λ u. u.ends s ≡ Last) (put g.by Last s w) ((later_kept S w).puts g.by Last s w (later_refl w)) (put_does g.by Last s w tt)))
    (λ u h. hand_last S u s g h.1 h.0) (λ u v h n q. q) (λ u. kept_hand S (Extends u) (later_kept S u) (u.ends s) g u (later_refl u)))

-- after a visit that waits for nothing, a visit to the duty changes nothing more in this state
pub visit-idle : (S : Setting) (k : ℕ) (d : Duty) (w u : Work) (c : Bool) → d.span < w.next → waits S d w ≡ false → visit S k d w ≡ goes u c → Extends w u → (v : Work) → Extends u v → visit S k d v ≡ goes v false
visit-idle S k d w u c l n e h v m =
    let p : Spent S k d u (statement_at S d.statement) d.number = subst (OfWork (λ z. Spent S k d z (statement_at S d.statement) d.number)) e (rule_spends S k d w l (statement_at S d.statement) d.number n) in
    rule-again S k d v (statement_at S d.statement) d.number (spent_later S k d u v m (omega (arith, l, h.serials)) (statement_at S d.statement) d.number p)

-- nor does a visit to a span
pub span_idle : (S : Setting) (t : Span) (w u : Work) (c : Bool) → Inside w.next t.serial t.opening → span_waits t u ≡ false → visit_span t w ≡ goes u c → Extends w u → (v : Work) → Extends u v → visit_span t v ≡ goes v false
span_idle S t w u c l n e h v m = by t.opening l n e
  where
    by : (q : Option Opening) → Inside w.next t.serial q → opened_waits q t.serial u ≡ false → visit_opened q t.serial w ≡ goes u c → visit_opened q t.serial v ≡ goes v false
    by None l n e = refl
    by (Some g) l n e =
        let p : SpanSpent u t.serial (Some g) = subst (OnEnd (λ z. SpanSpent z t.serial (Some g)) t.serial) e (opened_end S w t.serial g (w.ends g.follower.span) l.0) (not-false (is_ended (u.ends t.serial)) n) in
        span_again v t.serial (Some g) (span_later u v t.serial (Some g) m (omega (arith, l.0, h.serials), omega (arith, l.1, h.serials)) p)
