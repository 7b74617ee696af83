-- What is known of an end, after a duty is added or a span put on.
use Rattle.std.proofs.Common.{◌≡◌, ℕ, Bool, true, false, not, ◌||◌, eqb, ltb, Some, Option, length, sym, refl, ap, ◌∙◌, subst, Ok, Err, Result, IfOk}
use Rattle.std.proofs.lemmas.Bool.{cond_both}
use Rattle.value.specs.declared.end.End.{End}
use Rattle.value.specs.declared.end.End.TheVariants.{Unknown, On, Last}
use Rattle.meaning.specs.declared.duties.Duty.{Duty}
use Rattle.meaning.specs.declared.duties.Stop.{Stop}
use Rattle.value.specs.contracts.end.End.{the_type}
use denote.Enum.Bare.{sameb}
use Rattle.meaning.specs.declared.duties.Opening.{Opening}
use Rattle.meaning.specs.Waiting.{opened_waits}
use Rattle.meaning.specs.Work.{Work, Outcome, goes, unchanged, also, and_then, has_duty}
use Rattle.meaning.specs.Effects.{most_duties, with_duty, if_room, put_by, add, carry}
use Rattle.meaning.specs.Rules.{when_on, inherit_last, give_on, visit_opened}
use Rattle.meaning.specs.Runs.{is_ended}
use Rattle.meaning.proofs.VisitsKeep.{OfWork}
use Rattle.meaning.proofs.WaitsForNothing.{of_more}
use Rattle.board.specs.Outcomes.{outcome_of, afterwards}
use Rattle.rules.specs.declared.visit.Visited.{Visited}
use Rattle.rules.specs.Visits.{visit_changed}

-- to add a duty changes no end
add_ends : (d : Duty) (w : Work) → OfWork (λ u. u.ends ≡ w.ends) (add d w)
add_ends d w =
    let room : Bool = ltb (length w.duties) most_duties in
    cond_both (has_duty d w.duties) (unchanged w) (if_room room (with_duty d w)) (OfWork (λ u. u.ends ≡ w.ends)) (λ _. refl) (λ _. by room)
  where
    by : (b : Bool) → OfWork (λ u. u.ends ≡ w.ends) (if_room b (with_duty d w))
    by true = refl
    by false = tt

-- an outcome after which the end of s is known
abbrev Ended : ℕ → Outcome → Type 0
Ended s o = OfWork (λ u. is_ended (u.ends s) ≡ true) o

-- an end that is known stays so where a span is put on
pub put_ended : (p s o : ℕ) (c : End) (w : Work) → is_ended (w.ends s) ≡ true → Ended s (put_by p c On o w)
put_ended p s o Unknown w e = cond_both (eqb o s) On (w.ends s) (λ c. is_ended c ≡ true) (λ _. refl) (λ _. e)
put_ended p s o On w e = e
put_ended p s o Last w e = tt

-- and where a duty is added
pub add_ended : (d : Duty) (s : ℕ) (w : Work) → is_ended (w.ends s) ≡ true → Ended s (add d w)
add_ended d s w e = of_more (λ u. u.ends ≡ w.ends) (λ u. is_ended (u.ends s) ≡ true) (add d w) (λ u q. ap (λ (f : ℕ → End). is_ended (f s)) q ∙ e) (add_ends d w)

-- so a visit that is done, where the end was known, leaves it known
pub done_ended : (a : Result Visited Stop) (r : Result Bool Stop) (s : ℕ) (u : Work) (o : Outcome) → visit_changed a ≡ r → outcome_of r u ≡ o → IfOk a (λ v. v.done ≡ true) → Ended s o → IfOk a (λ v. v.done ≡ is_ended (u.ends s))
done_ended (Ok v) r s u o c e d h = d ∙ sym (subst (Ended s) (sym (ap (λ (q : Result Bool Stop). outcome_of q u) c ∙ e)) h)
done_ended (Err x) r s u o c e d h = tt

-- an answer where something has changed before
told_also : (b : Bool) (r : Result Bool Stop) (v : Work) → outcome_of (afterwards b r) v ≡ also b (outcome_of r v)
told_also b (Ok a) v = refl
told_also b (Err s) v = refl

-- so what is done where a span is on may go by the end before
pub told_on : (x a d : Duty) (c : End) (w u v : Work) (b : Bool) (r : Result Bool Stop) → x ≡ a → c ≡ w.ends d.span → goes u b ≡ add x w → outcome_of r v ≡ when_on c (carry d) u
    → outcome_of (afterwards b r) v ≡ and_then (add a w) (λ z. when_on (z.ends d.span) (carry d) z)
told_on x a d c w u v b r m n e h =
    let q : goes u b ≡ add a w = e ∙ ap (λ (y : Duty). add y w) m in
    let p : w.ends ≡ u.ends = sym (subst (OfWork (λ z. z.ends ≡ w.ends)) (sym q) (add_ends a w)) in
    told_also b r v ∙ ap (also b) (h ∙ ap (λ (y : End). when_on y (carry d) u) (n ∙ ap (λ (f : ℕ → End). f d.span) p)) ∙ ap (λ (o : Outcome). and_then o (λ z. when_on (z.ends d.span) (carry d) z)) q

-- an end is known where it is not the unknown one
pub known_end : (b : Bool) (c e : End) → c ≡ e → b ≡ not (sameb the_type c Unknown) → b ≡ not (not (is_ended e))
known_end b Unknown e q h = h ∙ ap (λ (z : End). not (not (is_ended z))) q
known_end b On e q h = h ∙ ap (λ (z : End). not (not (is_ended z))) q
known_end b Last e q h = h ∙ ap (λ (z : End). not (not (is_ended z))) q

-- a visit to a span that lies in another is done where the end of the span is known
pub span_ended : (b : Bool) (o : Option Opening) (g : Opening) (s : ℕ) (u : Work) → o ≡ Some g → b ≡ is_ended (u.ends s) → b ≡ not (opened_waits o s u)
span_ended b o g s u q h = h ∙ twice (is_ended (u.ends s)) ∙ ap (λ (z : Option Opening). not (opened_waits z s u)) (sym q)
  where
    twice : (a : Bool) → a ≡ not (not a)
    twice true = refl
    twice false = refl

-- and it has changed something if one of its two parts has
pub both_parts : (b t h : Bool) (o : Option Opening) (g : Opening) (s : ℕ) (w v u : Work) → o ≡ Some g → goes v t ≡ inherit_last (w.ends g.follower.span) g.by s w
    → goes u h ≡ give_on (v.ends s) g v → b ≡ (t || h) → goes u b ≡ visit_opened o s w
both_parts b t h o g s w v u q i j e =
    ap (goes u) e ∙ ap (also t) j ∙ ap (λ (z : Outcome). and_then z (λ x. give_on (x.ends s) g x)) i ∙ ap (λ (z : Option Opening). visit_opened z s w) (sym q)
