-- What a visit does keeps a work placed: it gives, puts, adds, carries or opens only what is granted.
use Rattle.std.proofs.Common.{◌≡◌, ℕ, suc, ◌<◌, ◌≤◌, Bool, true, false, cond, ◌&&◌, eqb, ltb, length, ℤ, Some, None, Option, ⊎_elim, sym, refl, ◌∙◌, subst, subst₂, arith}
use Rattle.std.proofs.lemmas.Bool.{both_ways, cond_both}
use Rattle.value.specs.declared.end.End.{End}
use Rattle.value.specs.declared.end.End.TheVariants.{Unknown, On, Last}
use Rattle.value.specs.Values.{equal_numbers}
use Rattle.meaning.specs.declared.duties.Duty.{Duty}
use Rattle.meaning.specs.declared.duties.Opening.{Opening}
use Rattle.meaning.specs.declared.duties.Span.{Span}
use Rattle.meaning.specs.declared.duties.Stop.TheVariants.{Contradiction, Crowded}
use Rattle.meaning.specs.Intervals.{Setting, value_fits}
use Rattle.meaning.specs.Work.{Work, Outcome, stops, goes, unchanged, changed, also, and_then, has_duty, has_opened, set_at}
use Rattle.meaning.specs.Effects.{most_duties, most_spans, with_value, with_end, with_duty, with_later, with_span, if_room, give_by, give, put_by, put, add, carry, open_span}
use Rattle.meaning.proofs.Lists.{all_snoc, set_all, set_same, set_other, some_injective}
use Rattle.meaning.proofs.Tests.{same_false}
use Rattle.meaning.specs.AnyOrder.{opening_renamed, opened_renamed}
use Rattle.meaning.proofs.Grants.{Grants, OpensGranted, OuterBelow, DutyPlaced, SpanPlaced, ValueSays, PlacedIn, RoomFor, Lawful}

-- the same places serve for the outcome
pub data KeepsPlaces (G : Grants) (n : ℕ) (φ : ℕ → ℕ) : Outcome → Type 0 where
  kept_full : G.full → KeepsPlaces G n φ (stops Crowded)
  kept_clash : {p : ℕ} → G.clash → KeepsPlaces G n φ (stops (Contradiction p))
  kept : {w : Work} {c : Bool} → PlacedIn G n φ w → KeepsPlaces G n φ (goes w c)

-- some places do, which are those of φ for the first n serials
pub data FindsPlaces (G : Grants) (n : ℕ) (φ : ℕ → ℕ) : Outcome → Type 0 where
  finds_full : G.full → FindsPlaces G n φ (stops Crowded)
  finds_clash : {p : ℕ} → G.clash → FindsPlaces G n φ (stops (Contradiction p))
  finds : {w : Work} {c : Bool} (m : ℕ) (ψ : ℕ → ℕ) → n ≤ m → ((s : ℕ) → s < n → ψ s ≡ φ s) → PlacedIn G m ψ w → FindsPlaces G n φ (goes w c)

module _ {G : Grants} {n : ℕ} {φ : ℕ → ℕ} where
  keep_also : {o : Outcome} (c : Bool) → KeepsPlaces G n φ o → KeepsPlaces G n φ (also c o)
  keep_also c (kept_full f) = kept_full f
  keep_also c (kept_clash f) = kept_clash f
  keep_also c (kept X) = kept X

  pub keep_then : {o : Outcome} (f : Work → Outcome) → KeepsPlaces G n φ o → ((u : Work) → PlacedIn G n φ u → KeepsPlaces G n φ (f u)) → KeepsPlaces G n φ (and_then o f)
  keep_then f (kept_full q) g = kept_full q
  keep_then f (kept_clash q) g = kept_clash q
  keep_then f (kept {w = w} {c = c} X) g = keep_also c (g w X)

  pub stay : {w : Work} {c : Bool} → PlacedIn G n φ w → FindsPlaces G n φ (goes w c)
  stay X = finds n φ (omega arith) (λ s h. refl) X

  pub finds_kept : {o : Outcome} → KeepsPlaces G n φ o → FindsPlaces G n φ o
  finds_kept (kept_full f) = finds_full f
  finds_kept (kept_clash f) = finds_clash f
  finds_kept (kept X) = stay X

  pub finds_also : {o : Outcome} (c : Bool) → FindsPlaces G n φ o → FindsPlaces G n φ (also c o)
  finds_also c (finds_full f) = finds_full f
  finds_also c (finds_clash f) = finds_clash f
  finds_also c (finds m ψ l a X) = finds m ψ l a X

  pub finds_after : {m : ℕ} {ψ : ℕ → ℕ} {o : Outcome} → n ≤ m → ((s : ℕ) → s < n → ψ s ≡ φ s) → FindsPlaces G m ψ o → FindsPlaces G n φ o
  finds_after l a (finds_full f) = finds_full f
  finds_after l a (finds_clash f) = finds_clash f
  finds_after l a (finds r χ m b X) = finds r χ (omega arith) (λ s h. b s (omega arith) ∙ a s h) X

  pub finds_then : {o : Outcome} (f : Work → Outcome) → FindsPlaces G n φ o → ((u : Work) (m : ℕ) (ψ : ℕ → ℕ) → n ≤ m → ((s : ℕ) → s < n → ψ s ≡ φ s) → PlacedIn G m ψ u → FindsPlaces G m ψ (f u)) → FindsPlaces G n φ (and_then o f)
  finds_then f (finds_full q) g = finds_full q
  finds_then f (finds_clash q) g = finds_clash q
  finds_then f (finds {w = w} {c = c} m ψ l a X) g = finds_also c (finds_after l a (g w m ψ l a X))

  keep_room : (b : Bool) (u : Work) (X : Type 0) → RoomFor X G.full b → (X → PlacedIn G n φ u) → KeepsPlaces G n φ (if_room b u)
  keep_room true u X r h = kept (h (r.0 refl))
  keep_room false u X r h = kept_full (r.1 refl)

module _ (G : Grants) where
  module _ (n : ℕ) (φ ψ : ℕ → ℕ) (agree : (s : ℕ) → s < n → ψ s ≡ φ s) where
    duty_on : (P : Duty → Type 0) (d : Duty) → DutyPlaced P n φ d → DutyPlaced P (suc n) ψ d
    duty_on P d h = (omega (arith, h.0), subst (λ z. P (record { statement = d.statement; number = d.number; span = z })) (sym (agree d.span h.0)) h.1)

    held_on : (f : Bool) (s : ℕ) (q : Option Opening) → s < n → OuterBelow n q → G.held (record { serial = φ s; opening = opened_renamed φ q; fresh = f })
        → OuterBelow (suc n) q × G.held (record { serial = ψ s; opening = opened_renamed ψ q; fresh = f })
    held_on f s None l b h = (tt, subst (λ z. G.held (record { serial = z; opening = None; fresh = f })) (sym (agree s l)) h)
    held_on f s (Some g) l b h =
        let P : ℕ → ℕ → Type 0 = λ y z. G.held (record { serial = y; opening = Some (record { by = g.by; body = g.body; starts = g.starts; follower = record { statement = g.follower.statement; number = g.follower.number; span = z } }); fresh = f }) in
        (omega arith, subst₂ P (sym (agree s l)) (sym (agree g.follower.span b)) h)

    span_on : (t : Span) → SpanPlaced G n φ t → SpanPlaced G (suc n) ψ t
    span_on t h = let r = held_on t.fresh t.serial t.opening h.0 h.1 h.2 in (omega (arith, h.0), r.0, r.1)

  new_ends : (φ : ℕ → ℕ) (f : ℕ → End) (n j : ℕ) (e : End) → G.at j e → ((s : ℕ) → G.at (φ s) (f s)) → (s : ℕ) → G.at (set_at φ n j s) (set_at f n e s)
  new_ends φ f n j e he h s = by (eqb n s)
    where
      by : (b : Bool) → G.at (cond b j (φ s)) (cond b e (f s))
      by true = he
      by false = h s

module _ {G : Grants} where
  module _ {n : ℕ} {φ : ℕ → ℕ} where
    pub keep_duty : (d : Duty) (w : Work) → DutyPlaced G.now n φ d → PlacedIn G n φ w → G.extra n φ (with_duty d w) → PlacedIn G n φ (with_duty d w)
    keep_duty d w h X b = record {
      next_is = X.next_is;
      values = X.values;
      ends = X.ends;
      spans = X.spans;
      duties = all_snoc (DutyPlaced G.now n φ) d w.duties X.duties h;
      later = X.later;
      besides = b;
    }

    pub keep_later : (d : Duty) (w : Work) → DutyPlaced G.next n φ d → PlacedIn G n φ w → G.extra n φ (with_later d w) → PlacedIn G n φ (with_later d w)
    keep_later d w h X b = record {
      next_is = X.next_is;
      values = X.values;
      ends = X.ends;
      spans = X.spans;
      duties = X.duties;
      later = all_snoc (DutyPlaced G.next n φ) d w.later X.later h;
      besides = b;
    }

  module _ {φ : ℕ → ℕ} where
    -- the new span stands at the place where one like it is held
    pub new_placed : (w : Work) (g : Opening) → PlacedIn G w.next φ w → g.follower.span < w.next → (o : OpensGranted G (opening_renamed φ g)) → G.extra (suc w.next) (set_at φ w.next o.place) (with_span g w)
        → PlacedIn G (suc w.next) (set_at φ w.next o.place) (with_span g w)
    new_placed w g X l o b =
        let n : ℕ = w.next in
        let ψ : ℕ → ℕ = set_at φ n o.place in
        let agree : (t : ℕ) → t < n → ψ t ≡ φ t = λ t h. set_other φ n o.place t h in
        let own : ψ n ≡ o.place = set_same φ n o.place in
        let P : ℕ → ℕ → Type 0 = λ y z. G.held (record { serial = y; opening = Some (record { by = g.by; body = g.body; starts = g.starts; follower = record { statement = g.follower.statement; number = g.follower.number; span = z } }); fresh = true }) in
        let r : P (ψ n) (ψ g.follower.span) = subst₂ P (sym own) (sym (agree g.follower.span l)) o.holds in
        let d : G.now (record { statement = g.body; number = None; span = ψ n }) = subst (λ z. G.now (record { statement = g.body; number = None; span = z })) (sym own) o.body in
        record {
          next_is = refl;
          values = X.values;
          ends = new_ends G φ w.ends n o.place g.starts o.starts X.ends;
          spans = all_snoc (SpanPlaced G (suc n) ψ) _ w.spans (λ t h. span_on G n φ ψ agree t (X.spans t h)) (omega arith, omega arith, r);
          duties = all_snoc (DutyPlaced G.now (suc n) ψ) _ w.duties (λ t h. duty_on G n φ ψ agree G.now t (X.duties t h)) (omega arith, d);
          later = λ t h. duty_on G n φ ψ agree G.next t (X.later t h);
          besides = b;
        }

module _ {S : Setting} {k : ℕ} {G : Grants} (A : Lawful S k G) where
  module _ {n : ℕ} {φ : ℕ → ℕ} where
    keep_value : (x : ℕ) (v : ℤ) (w : Work) → G.value x v → PlacedIn G n φ w → PlacedIn G n φ (with_value x v w)
    keep_value x v w h X = record {
      next_is = X.next_is;
      values = set_all (ValueSays G) w.known x (Some v) (λ z e. subst (λ y. G.value x y) (some_injective v z e) h) X.values;
      ends = X.ends;
      spans = X.spans;
      duties = X.duties;
      later = X.later;
      besides = A.value_extra n φ w x v X.besides;
    }

    keep_give_by : (p : ℕ) (q : Option ℤ) (x : ℕ) (v : ℤ) (w : Work) → ValueSays G x q → G.value x v → PlacedIn G n φ w → KeepsPlaces G n φ (give_by S p q x v w)
    keep_give_by p None x v w q h X =
        cond_both (value_fits S x v) (changed (with_value x v w)) (stops (Contradiction p)) (KeepsPlaces G n φ)
        (λ e. kept (keep_value x v w h X)) (λ e. ⊎_elim (λ (i : value_fits S x v ≡ true). absurd (both_ways (value_fits S x v) e i)) (λ (c : G.clash). kept_clash c) (A.fitting x v h))
    keep_give_by p (Some u) x v w q h X =
        cond_both (equal_numbers u v) (unchanged w) (stops (Contradiction p)) (KeepsPlaces G n φ)
        (λ e. kept X) (λ e. ⊎_elim (λ (i : u ≡ v). absurd (same_false u v e i)) (λ (c : G.clash). kept_clash c) (A.one_value x u v (q u refl) h))

    pub keep_give : (p x : ℕ) (v : ℤ) (w : Work) → G.value x v → PlacedIn G n φ w → KeepsPlaces G n φ (give S p x v w)
    keep_give p x v w h X = keep_give_by p (w.known x) x v w (X.values x) h X

    keep_end : (e : End) (s : ℕ) (w : Work) → G.at (φ s) e → PlacedIn G n φ w → PlacedIn G n φ (with_end e s w)
    keep_end e s w h X = record {
      next_is = X.next_is;
      values = X.values;
      ends = set_all (λ t u. G.at (φ t) u) w.ends s e h X.ends;
      spans = X.spans;
      duties = X.duties;
      later = X.later;
      besides = A.end_extra n φ w e s X.besides;
    }

    keep_put_by : (p : ℕ) (c e : End) (s : ℕ) (w : Work) → G.at (φ s) c → G.at (φ s) e → PlacedIn G n φ w → KeepsPlaces G n φ (put_by p c e s w)
    keep_put_by p Unknown Unknown s w c h X = kept X
    keep_put_by p Unknown On s w c h X = kept (keep_end On s w h X)
    keep_put_by p Unknown Last s w c h X = kept (keep_end Last s w h X)
    keep_put_by p On Unknown s w c h X = kept X
    keep_put_by p On On s w c h X = kept X
    keep_put_by p On Last s w c h X = kept_clash (A.one_end (φ s) c h)
    keep_put_by p Last Unknown s w c h X = kept X
    keep_put_by p Last On s w c h X = kept_clash (A.one_end (φ s) h c)
    keep_put_by p Last Last s w c h X = kept X

    pub keep_put : (p : ℕ) (e : End) (s : ℕ) (w : Work) → G.at (φ s) e → PlacedIn G n φ w → KeepsPlaces G n φ (put p e s w)
    keep_put p e s w h X = keep_put_by p (w.ends s) e s w (X.ends s) h X

    pub keep_add : (d : Duty) (w : Work) → DutyPlaced G.now n φ d → PlacedIn G n φ w → KeepsPlaces G n φ (add d w)
    keep_add d w h X =
        cond_both (has_duty d w.duties) (unchanged w) (if_room (ltb (length w.duties) most_duties) (with_duty d w)) (KeepsPlaces G n φ)
        (λ e. kept X) (λ e. keep_room (ltb (length w.duties) most_duties) (with_duty d w) (G.extra n φ (with_duty d w)) (A.duty_extra n φ w d X h e) (keep_duty d w h X))

    pub keep_carry : (d : Duty) (w : Work) → DutyPlaced G.next n φ d → PlacedIn G n φ w → KeepsPlaces G n φ (carry d w)
    keep_carry d w h X =
        cond_both (has_duty d w.later) (unchanged w) (if_room (ltb (length w.later) most_duties) (with_later d w)) (KeepsPlaces G n φ)
        (λ e. kept X) (λ e. keep_room (ltb (length w.later) most_duties) (with_later d w) (G.extra n φ (with_later d w)) (A.later_extra n φ w d X h e) (keep_later d w h X))

  module _ {φ : ℕ → ℕ} where
    finds_room : (b : Bool) (n m : ℕ) (ψ : ℕ → ℕ) (u : Work) (X : Type 0) → n ≤ m → ((s : ℕ) → s < n → ψ s ≡ φ s) → RoomFor X G.full b → (X → PlacedIn G m ψ u) → FindsPlaces G n φ (if_room b u)
    finds_room true n m ψ u X l a r h = finds m ψ l a (h (r.0 refl))
    finds_room false n m ψ u X l a r h = finds_full (r.1 refl)

    pub finds_open : {n : ℕ} (w : Work) (g : Opening) → PlacedIn G n φ w → g.follower.span < n → OpensGranted G (opening_renamed φ g) → FindsPlaces G n φ (open_span g w)
    finds_open {n} w g X l o =
        let Y : PlacedIn G w.next φ w = subst (λ a. PlacedIn G a φ w) (sym X.next_is) X in
        let h : g.follower.span < w.next = omega (arith, X.next_is) in
        let room : Bool = ltb (length w.spans) most_spans && ltb (length w.duties) most_duties in
        let ψ : ℕ → ℕ = set_at φ w.next o.place in
        cond_both (has_opened g w.spans) (unchanged w) (if_room room (with_span g w)) (FindsPlaces G n φ)
        (λ e. stay X)
        (λ e. finds_room room n (suc w.next) ψ (with_span g w) (G.extra (suc w.next) ψ (with_span g w)) (omega (arith, X.next_is)) (λ s i. set_other φ w.next o.place s (omega (arith, X.next_is)))
        (A.span_extra φ w g Y h o e) (new_placed w g Y h o))
