-- The five things that a visit does keep a work in order, make it grow, and lower the measure where they change it.
use Rattle.std.proofs.Common.{◌≡◌, ℕ, suc, ◌<◌, Bool, true, false, ◌&&◌, eqb, ltb, length, ℤ, Some, None, Option, sym, refl, ap, ◌∙◌, subst, arith}
use Rattle.std.proofs.lemmas.Bool.{eqb-true, ltb-true, and_parts, cond_both}
use Rattle.value.specs.declared.end.End.{End}
use Rattle.value.specs.declared.end.End.TheVariants.{Unknown, On, Last}
use Rattle.value.specs.Values.{equal_numbers}
use Rattle.meaning.specs.declared.duties.Duty.{Duty}
use Rattle.meaning.specs.declared.duties.Opening.{Opening}
use Rattle.meaning.specs.declared.duties.Span.{Span}
use Rattle.meaning.specs.declared.duties.Stop.{Stop}
use Rattle.meaning.specs.declared.duties.Stop.TheVariants.{Contradiction}
use Rattle.meaning.specs.Intervals.{Setting, width, value_fits}
use Rattle.meaning.specs.Work.{Work, Outcome, stops, goes, unchanged, changed, also, and_then, set_at, plain, has_duty, has_opened}
use Rattle.meaning.specs.Effects.{most_duties, most_spans, with_value, with_end, with_duty, with_later, with_span, if_room, give_by, give, put_by, put, add, carry, open_span}
use Rattle.meaning.specs.WellFormed.{◌∈◌, EndIs, Present, FitSays, Nested, RunsBody, WellFormed, IsEnded}
use Rattle.meaning.proofs.Lists.{∈_left, ∈_end, all_snoc, set_all, set_same, set_other, some_injective}
use Rattle.meaning.proofs.Tests.{unknown_on, unknown_last}
use Rattle.meaning.proofs.Measure.{Less, less_same, less_trans, less_duty, less_later, less_known, less_end, less_span}

-- nothing is taken away
pub record Grows (w u : Work) : Type 0 where
  pub more_duties : (d : Duty) → d ∈ w.duties → d ∈ u.duties
  pub more_spans : (t : Span) → t ∈ w.spans → t ∈ u.spans

pub grows_refl : (w : Work) → Grows w w
grows_refl w = record { more_duties = λ d q. q; more_spans = λ t q. q }

pub grows_trans : {w u v : Work} → Grows w u → Grows u v → Grows w v
grows_trans a b = record { more_duties = λ d q. b.more_duties d (a.more_duties d q); more_spans = λ t q. b.more_spans t (a.more_spans t q) }

pub present_more : {w u : Work} {s : ℕ} → Grows w u → Present w.spans s → Present u.spans s
present_more a h = record { span = h.span; inside = a.more_spans h.span h.inside; named = h.named }

-- an outcome that grew from w, is in order and says P, unless it is a stop
pub data Moves (S : Setting) (w : Work) (P : Work → Type 0) : Outcome → Type 0 where
  moves_stop : {s : Stop} → Moves S w P (stops s)
  moves_on : {u : Work} {c : Bool} → Grows w u → Less (width S) c u w → WellFormed S u → P u → Moves S w P (goes u c)

abbrev pub Any : Work → Type 0
Any w = Unit {0}

module _ {S : Setting} {w : Work} {P : Work → Type 0} where
  moves_room : (b : Bool) (u : Work) → (b ≡ true → Moves S w P (goes u true)) → Moves S w P (if_room b u)
  moves_room true u h = h refl
  moves_room false u h = moves_stop

  moves_after : {v : Work} {o : Outcome} (c : Bool) → Grows v w → Less (width S) c w v → Moves S w P o → Moves S v P (also c o)
  moves_after c a f moves_stop = moves_stop
  moves_after c a f (moves_on {c = b} g l t p) = moves_on (grows_trans a g) (less_trans c b f l) t p

  pub moves_any : {o : Outcome} → Moves S w P o → Moves S w Any o
  moves_any moves_stop = moves_stop
  moves_any (moves_on g l t p) = moves_on g l t tt

pub moves_then : {S : Setting} {w : Work} {P Q : Work → Type 0} {o : Outcome} (f : Work → Outcome) → Moves S w P o → ((u : Work) → Grows w u → WellFormed S u → P u → Moves S u Q (f u)) → Moves S w Q (and_then o f)
moves_then f moves_stop h = moves_stop
moves_then f (moves_on {u = u} {c = c} g l t p) h = moves_after c g l (h u g t p)

same_lists : (w u : Work) → u.duties ≡ w.duties → u.spans ≡ w.spans → Grows w u
same_lists w u a b = record { more_duties = λ d q. subst (λ l. d ∈ l) (sym a) q; more_spans = λ t q. subst (λ l. t ∈ l) (sym b) q }

-- a body that runs goes on running in a longer list
body_more : (w u : Work) (t : Span) → ((d : Duty) → d ∈ w.duties → d ∈ u.duties) → ((e : End) → EndIs (w.ends t.serial) e → EndIs (u.ends t.serial) e) → RunsBody w t → RunsBody u t
body_more w u t m n h g o f = let r = h g o f in (m (plain g.body t.serial) r.0, n g.starts r.1)

-- an end that is put where none is known changes no other
kept_end : (f : ℕ → End) (s : ℕ) (e : End) (x : ℕ) (c : End) → f s ≡ Unknown → EndIs (f x) c → EndIs (set_at f s e x) c
kept_end f s e x Unknown a h = tt
kept_end f s e x On a h = cond_both (eqb s x) e (f x) (λ z. z ≡ On) (λ p. absurd (unknown_on (sym a ∙ ap f (eqb-true s x p) ∙ h))) (λ p. h)
kept_end f s e x Last a h = cond_both (eqb s x) e (f x) (λ z. z ≡ Last) (λ p. absurd (unknown_last (sym a ∙ ap f (eqb-true s x p) ∙ h))) (λ p. h)

module _ {S : Setting} where
  pub moves_stay : (w : Work) → WellFormed S w → Moves S w Any (goes w false)
  moves_stay w t = moves_on (grows_refl w) (less_same w) t tt

  add_well_formed : (d : Duty) (w : Work) → WellFormed S w → Present w.spans d.span → WellFormed S (with_duty d w)
  add_well_formed d w t h = record {
    fitted = t.fitted;
    duty_present = all_snoc (λ c. Present w.spans c.span) d w.duties t.duty_present h;
    later_present = t.later_present;
    nested = t.nested;
    few_serials = t.few_serials;
    bodies = λ r q. body_more w (with_duty d w) r (λ c m. ∈_left d m) (λ e m. m) (t.bodies r q);
  }

  pub add_moves : (d : Duty) (w : Work) → WellFormed S w → Present w.spans d.span → Moves S w Any (add d w)
  add_moves d w t h =
      cond_both (has_duty d w.duties) (unchanged w) (if_room (ltb (length w.duties) most_duties) (with_duty d w)) (Moves S w Any) (λ e. moves_stay w t)
      (λ e. moves_room (ltb (length w.duties) most_duties) (with_duty d w)
      (λ r. moves_on (record { more_duties = λ c q. ∈_left d q; more_spans = λ c q. q }) (less_duty (width S) d w (ltb-true (length w.duties) most_duties r)) (add_well_formed d w t h) tt))

  carry_well_formed : (d : Duty) (w : Work) → WellFormed S w → Present w.spans d.span → w.ends d.span ≡ On → WellFormed S (with_later d w)
  carry_well_formed d w t h e = record {
    fitted = t.fitted;
    duty_present = t.duty_present;
    later_present = all_snoc (λ c. Present w.spans c.span × (w.ends c.span ≡ On)) d w.later t.later_present (h, e);
    nested = t.nested;
    few_serials = t.few_serials;
    bodies = t.bodies;
  }

  pub carry_moves : (d : Duty) (w : Work) → WellFormed S w → Present w.spans d.span → w.ends d.span ≡ On → Moves S w (λ u. u.ends d.span ≡ On) (carry d w)
  carry_moves d w t h e =
      let P : Work → Type 0 = λ u. u.ends d.span ≡ On in
      cond_both (has_duty d w.later) (unchanged w) (if_room (ltb (length w.later) most_duties) (with_later d w)) (Moves S w P) (λ _. moves_on (grows_refl w) (less_same w) t e)
      (λ _. moves_room (ltb (length w.later) most_duties) (with_later d w)
      (λ r. moves_on (same_lists w (with_later d w) refl refl) (less_later (width S) d w (ltb-true (length w.later) most_duties r)) (carry_well_formed d w t h e) e))

  end_well_formed : (e : End) (s : ℕ) (w : Work) → w.ends s ≡ Unknown → WellFormed S w → WellFormed S (with_end e s w)
  end_well_formed e s w a t = record {
    fitted = t.fitted;
    duty_present = t.duty_present;
    later_present = λ d q. ((t.later_present d q).0, kept_end w.ends s e d.span On a (t.later_present d q).1);
    nested = t.nested;
    few_serials = t.few_serials;
    bodies = λ r q. body_more w (with_end e s w) r (λ c m. m) (λ c m. kept_end w.ends s e r.serial c a m) (t.bodies r q);
  }

  put_new : (e : End) (s : ℕ) (w : Work) → IsEnded e → w.ends s ≡ Unknown → WellFormed S w → Present w.spans s → EndIs (set_at w.ends s e s) e → Moves S w (λ u. EndIs (u.ends s) e) (goes (with_end e s w) true)
  put_new e s w i a t l p = moves_on (same_lists w (with_end e s w) refl refl) (less_end (width S) e s w i a l) (end_well_formed e s w a t) p

  put_by_moves : (p : ℕ) (c e : End) (s : ℕ) (w : Work) → w.ends s ≡ c → WellFormed S w → Present w.spans s → Moves S w (λ u. EndIs (u.ends s) e) (put_by p c e s w)
  put_by_moves p Unknown Unknown s w a t l = moves_on (grows_refl w) (less_same w) t tt
  put_by_moves p Unknown On s w a t l = put_new On s w tt a t l (set_same w.ends s On)
  put_by_moves p Unknown Last s w a t l = put_new Last s w tt a t l (set_same w.ends s Last)
  put_by_moves p On Unknown s w a t l = moves_on (grows_refl w) (less_same w) t tt
  put_by_moves p On On s w a t l = moves_on (grows_refl w) (less_same w) t a
  put_by_moves p On Last s w a t l = moves_stop
  put_by_moves p Last Unknown s w a t l = moves_on (grows_refl w) (less_same w) t tt
  put_by_moves p Last On s w a t l = moves_stop
  put_by_moves p Last Last s w a t l = moves_on (grows_refl w) (less_same w) t a

  pub put_moves : (p : ℕ) (e : End) (s : ℕ) (w : Work) → WellFormed S w → Present w.spans s → Moves S w (λ u. EndIs (u.ends s) e) (put p e s w)
  put_moves p e s w t l = put_by_moves p (w.ends s) e s w refl t l

  value_well_formed : (x : ℕ) (v : ℤ) (w : Work) → value_fits S x v ≡ true → WellFormed S w → WellFormed S (with_value x v w)
  value_well_formed x v w e t = record {
    fitted = set_all (λ y o. FitSays S y o) w.known x (Some v) e t.fitted;
    duty_present = t.duty_present;
    later_present = t.later_present;
    nested = t.nested;
    few_serials = t.few_serials;
    bodies = t.bodies;
  }

  give_by_moves : (p : ℕ) (q : Option ℤ) (x : ℕ) (v : ℤ) (w : Work) → w.known x ≡ q → x < width S → WellFormed S w → Moves S w Any (give_by S p q x v w)
  give_by_moves p None x v w n l t =
      cond_both (value_fits S x v) (changed (with_value x v w)) (stops (Contradiction p)) (Moves S w Any)
      (λ e. moves_on (same_lists w (with_value x v w) refl refl) (less_known (width S) x v w n l) (value_well_formed x v w e t) tt) (λ e. moves_stop)
  give_by_moves p (Some a) x v w n l t = cond_both (equal_numbers a v) (unchanged w) (stops (Contradiction p)) (Moves S w Any) (λ e. moves_stay w t) (λ e. moves_stop)

  pub give_moves : (p x : ℕ) (v : ℤ) (w : Work) → x < width S → WellFormed S w → Moves S w Any (give S p x v w)
  give_moves p x v w l t = give_by_moves p (w.known x) x v w refl l t

new_grows : (g : Opening) (w : Work) → Grows w (with_span g w)
new_grows g w = record { more_duties = λ c q. ∈_left _ q; more_spans = λ c q. ∈_left _ q }

new_nested : (g : Opening) (w : Work) (s : ℕ) (q : Option Opening) → Nested w.spans s q → Nested (with_span g w).spans s q
new_nested g w s None h = h
new_nested g w s (Some r) h = (h.0, present_more (new_grows g w) h.1)

ends_so : (c e : End) → c ≡ e → EndIs c e
ends_so c Unknown h = tt
ends_so c On h = h
ends_so c Last h = h

-- the new span runs its body
new_body : (g : Opening) (w : Work) → RunsBody (with_span g w) (record { serial = w.next; opening = Some g; fresh = true })
new_body g w h o f =
    let e : g ≡ h = some_injective g h o in
    subst (λ (z : Opening). (plain z.body w.next ∈ (with_span g w).duties) × EndIs ((with_span g w).ends w.next) z.starts) e
    (∈_end _ w.duties, ends_so _ g.starts (set_same w.ends w.next g.starts))

module _ {S : Setting} where
  new_well_formed : (g : Opening) (w : Work) → Present w.spans g.follower.span → WellFormed S w → WellFormed S (with_span g w)
  new_well_formed g w h t = record {
    fitted = t.fitted;
    duty_present = all_snoc (λ d. Present (with_span g w).spans d.span) _ w.duties (λ d q. present_more (new_grows g w) (t.duty_present d q)) (record { span = _; inside = ∈_end _ w.spans; named = refl });
    later_present = λ d q. (present_more (new_grows g w) (t.later_present d q).0, old_end d.span (below (t.later_present d q).0) ∙ (t.later_present d q).1);
    nested = all_snoc (λ r. Nested (with_span g w).spans r.serial r.opening) _ w.spans (λ r q. new_nested g w r.serial r.opening (t.nested r q)) (below h, present_more (new_grows g w) h);
    few_serials = all_snoc (λ r. r.serial < suc w.next) _ w.spans (λ r q. omega (arith, t.few_serials r q)) (omega arith);
    bodies =
        all_snoc (RunsBody (with_span g w)) _ w.spans
        (λ r q. body_more w (with_span g w) r (λ d m. ∈_left _ m) (λ e m. subst (λ z. EndIs z e) (sym (old_end r.serial (t.few_serials r q))) m) (t.bodies r q)) (new_body g w);
  }
    where
      below : {s : ℕ} → Present w.spans s → s < w.next
      below h = subst (λ z. z < w.next) h.named (t.few_serials h.span h.inside)

      old_end : (s : ℕ) → s < w.next → set_at w.ends w.next g.starts s ≡ w.ends s
      old_end s l = set_other w.ends w.next g.starts s l

  pub open_moves : (g : Opening) (w : Work) → Present w.spans g.follower.span → WellFormed S w → Moves S w Any (open_span g w)
  open_moves g w h t =
      let a : Bool = ltb (length w.spans) most_spans in
      let b : Bool = ltb (length w.duties) most_duties in
      cond_both (has_opened g w.spans) (unchanged w) (if_room (a && b) (with_span g w)) (Moves S w Any) (λ _. moves_stay w t)
      (λ _. moves_room (a && b) (with_span g w)
      (λ r. moves_on (new_grows g w) (less_span (width S) g w t.few_serials (ltb-true (length w.spans) most_spans (and_parts a b r).0)) (new_well_formed g w h t) tt))
