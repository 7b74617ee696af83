-- What lies one to one in a rest has no more entries than it has, and so is never crowded.
use Rattle.std.proofs.Common.{◌≡◌, ℕ, suc, ◌<◌, ◌≤◌, Bool, true, false, ◌&&◌, ltb, length, Some, None, Option, inl, sym, refl, ap, ◌∙◌, subst, arith}
use native.Mathlib.Decide.{ℕ_discrete}
use Rattle.std.proofs.lemmas.Bool.{both_ways, and_from, lt-ltb}
use Rattle.meaning.specs.declared.duties.Duty.{Duty}
use Rattle.meaning.specs.declared.duties.Opening.{Opening}
use Rattle.meaning.specs.declared.duties.Span.{Span}
use Rattle.meaning.specs.Intervals.{Setting}
use Rattle.meaning.specs.Work.{Work, plain, has_duty, has_opened, set_at}
use Rattle.meaning.specs.Effects.{most_duties, most_spans, with_value, with_end, with_duty, with_later, with_span}
use Rattle.meaning.specs.Laws.{Roomy}
use Rattle.meaning.specs.WellFormed.{◌∈◌, Present, WellFormed}
use Rattle.meaning.proofs.Lists.{∈_left, ∈_end, longer, set_same, set_other, none_some, some_injective}
use Rattle.meaning.proofs.Tests.{stands_has}
use Rattle.meaning.proofs.Rest.{Rest}
use Rattle.meaning.specs.AnyOrder.{duty_renamed, opening_renamed, opened_renamed, span_renamed}
use Rattle.meaning.proofs.PartOf.{AsksAlike, KnowsAsMuch, AtRest, Neat, OneToOne, NoDoubles}
use Rattle.meaning.proofs.Grants.{OpensGranted, OuterBelow, DutyPlaced, PlacedIn, RoomFor, Lawful}
use Rattle.meaning.proofs.PlacedEffects.{keep_duty, keep_later, new_placed}
use Rattle.meaning.proofs.Distinct.{distinct_snoc, fits_in, not_has}
use Rattle.meaning.proofs.Neat.{neat_new, neat_later, neat_same}
use Rattle.meaning.proofs.RestGrants.{rest_grants, Closed, closed, one_end, rest_of}

small : (b : Bool) (n m : ℕ) → n < m → ltb n m ≡ false → ⊥
small b n m l e = absurd (grind (arith))

module _ (T : Setting) (u : Work) (R : WellFormed T u) where
  duty_one : {n : ℕ} {φ : ℕ → ℕ} {w : Work} → OneToOne n φ w u → (a b : Duty) → a.span < n → b.span < n → Present u.spans (φ a.span) → duty_renamed φ a ≡ duty_renamed φ b → a ≡ b
  duty_one O a b l r h e =
      let s : a.span ≡ b.span = O.apart a.span b.span l r h (ap (λ (z : Duty). z.span) e) in
      let p : a.statement ≡ b.statement = ap (λ (z : Duty). z.statement) e in
      let q : a.number ≡ b.number = ap (λ (z : Duty). z.number) e in
      λ i. record { statement = p i; number = q i; span = s i }

  duties_few : {n : ℕ} {φ : ℕ → ℕ} {w : Work} → PlacedIn (rest_grants u) n φ w → length w.duties ≤ length u.duties
  duties_few {n} {φ} {w} Y =
      fits_in (duty_renamed φ) w.duties u.duties Y.besides.duties
      (λ a b p q e. duty_one Y.besides.one_to_one a b (Y.duties a p).0 (Y.duties b q).0 (R.duty_present (duty_renamed φ a) (Y.duties a p).1) e) (λ a p. (Y.duties a p).1)

  later_few : {n : ℕ} {φ : ℕ → ℕ} {w : Work} → PlacedIn (rest_grants u) n φ w → length w.later ≤ length u.later
  later_few {n} {φ} {w} Y =
      fits_in (duty_renamed φ) w.later u.later Y.besides.neat.later
      (λ a b p q e. duty_one Y.besides.one_to_one a b (Y.later a p).0 (Y.later b q).0 (R.later_present (duty_renamed φ a) (Y.later a p).1).0 e) (λ a p. (Y.later a p).1)

  spans_few : {n : ℕ} {φ : ℕ → ℕ} {w : Work} → PlacedIn (rest_grants u) n φ w → length w.spans ≤ length u.spans
  spans_few {n} {φ} {w} Y =
      fits_in (span_renamed φ) w.spans u.spans Y.besides.neat.spans
      (λ a b p q e. Y.besides.neat.one_serial a b p q
      (Y.besides.one_to_one.apart a.serial b.serial (Y.spans a p).0 (Y.spans b q).0 (record { span = span_renamed φ a; inside = (Y.spans a p).2; named = refl }) (ap (λ (z : Span). z.serial) e)))
      (λ a p. (Y.spans a p).2)

  module _ (Z : Roomy u) where
    add_no_doubles : (n : ℕ) (φ : ℕ → ℕ) (w : Work) (d : Duty) → PlacedIn (rest_grants u) n φ w → DutyPlaced (λ z. z ∈ u.duties) n φ d → has_duty d w.duties ≡ false
        → RoomFor (NoDoubles u n φ (with_duty d w)) ⊥ (ltb (length w.duties) most_duties)
    add_no_doubles n φ w d Y l e = ((λ b. x), (λ b. small true (length w.duties) most_duties (omega (arith, m, longer w.duties d, Z.duties)) b))
      where
        x : NoDoubles u n φ (with_duty d w)
        x = record { neat = neat_same w (with_duty d w) Y.besides.neat refl refl refl; duties = distinct_snoc w.duties d Y.besides.duties (not_has e); one_to_one = record { apart = Y.besides.one_to_one.apart; back = Y.besides.one_to_one.back } }

        m : length (with_duty d w).duties ≤ length u.duties
        m = duties_few (keep_duty {G = rest_grants u} d w l Y x)

    carry_no_doubles : (n : ℕ) (φ : ℕ → ℕ) (w : Work) (d : Duty) → PlacedIn (rest_grants u) n φ w → DutyPlaced (λ z. z ∈ u.later) n φ d → has_duty d w.later ≡ false
        → RoomFor (NoDoubles u n φ (with_later d w)) ⊥ (ltb (length w.later) most_duties)
    carry_no_doubles n φ w d Y l e = ((λ b. x), (λ b. small true (length w.later) most_duties (omega (arith, m, longer w.later d, Z.later)) b))
      where
        x : NoDoubles u n φ (with_later d w)
        x = record { neat = neat_later d w e Y.besides.neat; duties = Y.besides.duties; one_to_one = record { apart = Y.besides.one_to_one.apart; back = Y.besides.one_to_one.back } }

        m : length (with_later d w).later ≤ length u.later
        m = later_few (keep_later {G = rest_grants u} d w l Y x)

  -- openings that are renamed to one are one
  opened_one : {n : ℕ} {φ : ℕ → ℕ} {w : Work} → OneToOne n φ w u → (q : Option Opening) (g : Opening) → OuterBelow n q → g.follower.span < n → Present u.spans (φ g.follower.span)
      → opened_renamed φ q ≡ Some (opening_renamed φ g) → q ≡ Some g
  opened_one O None g b l r e = absurd (none_some _ e)
  opened_one {n} {φ} {w} O (Some h) g b l r e =
      let p : opening_renamed φ h ≡ opening_renamed φ g = some_injective (opening_renamed φ h) (opening_renamed φ g) e in
      let f : duty_renamed φ h.follower ≡ duty_renamed φ g.follower = ap (λ (z : Opening). z.follower) p in
      let c : h.follower ≡ g.follower = sym (duty_one O g.follower h.follower l b r (sym f)) in
      let y : h.by ≡ g.by = ap (λ (z : Opening). z.by) p in
      let x : h.body ≡ g.body = ap (λ (z : Opening). z.body) p in
      let s : h.starts ≡ g.starts = ap (λ (z : Opening). z.starts) p in
      let whole : h ≡ g = λ i. record { by = y i; body = x i; starts = s i; follower = c i } in
      ap {B = Option Opening} Some whole

  module _ (N : Neat u) (φ : ℕ → ℕ) (w : Work) (g : Opening) (Y : PlacedIn (rest_grants u) w.next φ w) (l : g.follower.span < w.next) (o : OpensGranted (rest_grants u) (opening_renamed φ g)) (e : has_opened g w.spans ≡ false) where
    -- no span that is there already stands at the place of the new one
    not_old : (j : ℕ) → j < w.next → φ j ≡ o.place → ⊥
    not_old j h p = refuse (Y.besides.one_to_one.back j h (record { span = _; inside = o.holds; named = sym p }))
      where
        refuse : Present w.spans j → ⊥
        refuse L =
            let t : Span = L.span in
            let q = Y.spans t L.inside in
            let s : span_renamed φ t ≡ record { serial = o.place; opening = Some (opening_renamed φ g); fresh = true } = N.one_serial (span_renamed φ t) _ q.2 o.holds (ap φ L.named ∙ p) in
            let f : t.fresh ≡ true = ap (λ (z : Span). z.fresh) s in
            let m : opened_renamed φ t.opening ≡ Some (opening_renamed φ g) = ap (λ (z : Span). z.opening) s in
            let outer : Present u.spans (φ g.follower.span) = (R.nested _ o.holds).1 in
            let c : t.opening ≡ Some g = opened_one Y.besides.one_to_one t.opening g q.1 l outer m in
            both_ways (has_opened g w.spans) e (stands_has {g = g} {l = w.spans} (record { span = t; inside = L.inside; opened = c; newly = f }))

    n : ℕ
    n = w.next

    abbrev ψ : ℕ → ℕ
    ψ = set_at φ w.next o.place

    old : (j : ℕ) → j < w.next → ψ j ≡ φ j
    old j h = set_other φ w.next o.place j h

    new : ψ w.next ≡ o.place
    new = set_same φ w.next o.place

    apart_new : (i j : ℕ) → i < suc w.next → j < suc w.next → Present u.spans (ψ i) → ψ i ≡ ψ j → i ≡ j
    apart_new i j a b h p = by (ℕ_discrete i w.next) (ℕ_discrete j w.next)
      where
        by : Dec (i ≡ w.next) → Dec (j ≡ w.next) → i ≡ j
        by (yes x) (yes y) = x ∙ sym y
        by (yes x) (no y) = absurd (not_old j (omega arith) (sym (old j (omega arith)) ∙ sym p ∙ ap ψ x ∙ new))
        by (no x) (yes y) = absurd (not_old i (omega arith) (sym (old i (omega arith)) ∙ p ∙ ap ψ y ∙ new))
        by (no x) (no y) =
            let c : i < w.next = omega arith in
            let d : j < w.next = omega arith in
            Y.besides.one_to_one.apart i j c d (subst (λ z. Present u.spans z) (old i c) h) (sym (old i c) ∙ p ∙ old j d)

    back_new : (i : ℕ) → i < suc w.next → Present u.spans (ψ i) → Present (with_span g w).spans i
    back_new i a h = by (ℕ_discrete i w.next)
      where
        by : Dec (i ≡ w.next) → Present (with_span g w).spans i
        by (yes x) = record { span = record { serial = w.next; opening = Some g; fresh = true }; inside = ∈_end _ w.spans; named = sym x }
        by (no x) =
            let c : i < w.next = omega arith in
            let L : Present w.spans i = Y.besides.one_to_one.back i c (subst (λ z. Present u.spans z) (old i c) h) in
            record { span = L.span; inside = ∈_left _ L.inside; named = L.named }

    body_new : plain g.body w.next ∈ w.duties → ⊥
    body_new q = omega (arith, (Y.duties (plain g.body w.next) q).0)

    opened_no_doubles : NoDoubles u (suc w.next) ψ (with_span g w)
    opened_no_doubles = record {
      neat = neat_new g w e Y.besides.neat;
      duties = distinct_snoc w.duties (plain g.body w.next) Y.besides.duties body_new;
      one_to_one = record { apart = apart_new; back = back_new };
    }

    placed_new : PlacedIn (rest_grants u) (suc w.next) ψ (with_span g w)
    placed_new = new_placed {G = rest_grants u} w g Y l o opened_no_doubles

    open_no_doubles : Roomy u → RoomFor (NoDoubles u (suc w.next) ψ (with_span g w)) ⊥ (ltb (length w.spans) most_spans && ltb (length w.duties) most_duties)
    open_no_doubles Z = ((λ b. opened_no_doubles), (λ b. both_ways (ltb (length w.spans) most_spans && ltb (length w.duties) most_duties) b (and_from (ltb (length w.spans) most_spans) (ltb (length w.duties) most_duties) s d)))
      where
        s : ltb (length w.spans) most_spans ≡ true
        s = lt-ltb (length w.spans) most_spans (omega (arith, spans_few placed_new, longer w.spans (record { serial = w.next; opening = Some g; fresh = true }), Z.spans))

        d : ltb (length w.duties) most_duties ≡ true
        d = lt-ltb (length w.duties) most_duties (omega (arith, duties_few placed_new, longer w.duties (plain g.body w.next), Z.duties))

-- what a work at rest grants is closed under the rules, and nothing in it is ever full
pub rest_lawful : (S T : Setting) (k : ℕ) (u : Work) → AsksAlike S T k → KnowsAsMuch S T u → AtRest T k u → Neat u → Roomy u → Lawful S k (rest_grants u)
rest_lawful S T k u A K h N Z =
    let Q : Rest T k u = rest_of T k u h in
    let C : Closed S T k u K h.well_formed = closed S T k u K h.well_formed A Q in
    record {
      unknown = λ j. tt;
      one_end = one_end S T k u K h.well_formed;
      one_value = λ x a b p q. inl (some_injective a b (sym p ∙ q));
      fitting = λ x v e. inl (C.fitting x v e);
      of_duty = C.of_duty;
      of_span = λ s g f q. Q.of_span (record { serial = s; opening = Some g; fresh = f }) q;
      value_extra = λ n φ w x v e. record { neat = neat_same w (with_value x v w) e.neat refl refl refl; duties = e.duties; one_to_one = record { apart = e.one_to_one.apart; back = e.one_to_one.back } };
      end_extra = λ n φ w c s e. record { neat = neat_same w (with_end c s w) e.neat refl refl refl; duties = e.duties; one_to_one = record { apart = e.one_to_one.apart; back = e.one_to_one.back } };
      duty_extra = λ n φ w d Y l e. add_no_doubles T u h.well_formed Z n φ w d Y l e;
      later_extra = λ n φ w d Y l e. carry_no_doubles T u h.well_formed Z n φ w d Y l e;
      span_extra = λ φ w g Y l o e. open_no_doubles T u h.well_formed N φ w g Y l o e Z;
    }
