-- Two orders of visits come to the same: in one state, and in runs with equally many states.
use Rattle.std.proofs.Common.{◌≡◌, ℕ, ◌<◌, false, List, [], ◌∷◌, ◌++◌, length, ℤ, Some, None, Option, sym, refl, ap, ◌∙◌, subst, subst₂, arith}
use Rattle.sheet.specs.Content.{Content}
use Rattle.sheet.specs.Limits.{Limits}
use Rattle.feed.specs.Readings.{SameReadings}
use Rattle.value.specs.declared.end.End.{End}
use Rattle.value.specs.declared.end.End.TheVariants.{Unknown, On, Last}
use Rattle.meaning.specs.declared.duties.Duty.{Duty}
use Rattle.meaning.specs.declared.duties.LeftOpen.{LeftOpen}
use Rattle.meaning.specs.declared.duties.Span.{Span}
use Rattle.meaning.specs.declared.duties.Stop.{Stop}
use Rattle.meaning.specs.declared.duties.Stop.TheVariants.{Undetermined}
use Rattle.meaning.specs.Intervals.{Setting, under, width}
use Rattle.meaning.specs.Work.{Work, Outcome, stops, goes, plain}
use Rattle.meaning.specs.Visiting.{SettlesInAnyOrder, comes_to_rest, meets_stop, in_any_order}
use Rattle.meaning.specs.Runs.{whole_span, first_work, left_open, state_of, next_work, Step, stopped, recorded, finished, closed_by, judged_by, step_of, StepsBy, OngoingBy, start, onward}
use Rattle.meaning.specs.Laws.{Roomy}
use Rattle.meaning.specs.WellFormed.{◌∈◌, here, there}
use Rattle.meaning.specs.AnyOrder.{duty_renamed, span_renamed, Broken, SameOutcome, both_rest, neither_rests}
use Rattle.meaning.proofs.Lists.{longer}
use Rattle.meaning.proofs.VisitsKeep.{kept_any_order}
use Rattle.meaning.proofs.Fuel.{roomy_kept}
use Rattle.meaning.proofs.PartOf.{PartOfWork, AsksAlike, KnowsAsMuch, Distinct, Like, Within, within}
use Rattle.meaning.proofs.RestGrants.{same_knows}
use Rattle.meaning.proofs.PartStays.{part_stays}
use Rattle.meaning.proofs.Starts.{Start, settled_from, first_start}
use Rattle.meaning.proofs.InRest.{send, part_of_rest}
use Rattle.meaning.proofs.SameRests.{Paired, paired_back, Mutual, whole_same, open_same, state_same, rests_same, next_same, next_paired}

-- ---- one state

-- a work that lies in a rest, and where its serials are there
record Lying (n : ℕ) (φ : ℕ → ℕ) (u w : Work) : Type 0 where
  names : ℕ → ℕ
  same : (s : ℕ) → s < n → names s ≡ φ s
  part : PartOfWork names w u
  distinct : Distinct w.duties

lying : {n : ℕ} {φ : ℕ → ℕ} {u w : Work} → Within n φ u (goes w false) → Lying n φ u w
lying (within ψ l a P N) = record { names = ψ; same = a; part = P; distinct = N.duties }

-- what two states of two runs come to, which start with paired works
pub data Meet (S T : Setting) (k : ℕ) (a b : Work) : Outcome → Outcome → Type 0 where
  meet_at_rest : {u v : Work} → Mutual S T k a b u v → Meet S T k a b (goes u false) (goes v false)
  meet_no_rest : {p q : Stop} → Broken p → Broken q → Meet S T k a b (stops p) (stops q)

-- a state that stops, in whichever order, is broken
stops_broken : {S : Setting} {k : ℕ} {a : Work} {p : Stop} → Start S a → SettlesInAnyOrder S k a (stops p) → Broken p
stops_broken {S} A s = kept_any_order S Roomy (roomy_kept S) s A.roomy

module _ (S T : Setting) (LT : Limits T.sheet) (k : ℕ) (A : AsksAlike S T k) (K : (u : Work) → KnowsAsMuch S T u) where
  -- whatever the one run comes to lies in a rest of the other
  lies : {a b v : Work} {o : Outcome} (P : Paired S T a b) → SettlesInAnyOrder T k b (goes v false) → SettlesInAnyOrder S k a o → Within a.next (send a.spans v.next P.twins.φ) v o
  lies {a} {b} {v} P t s =
      part_stays S T k (send a.spans v.next P.twins.φ) a v (part_of_rest S T k P.twins.φ P.twins.ψ a b v A (K v) P.one (settled_from LT P.other t) P.twins.there) s

  -- so it is no stop
  no_stop : {a b v : Work} {p : Stop} (P : Paired S T a b) → SettlesInAnyOrder T k b (goes v false) → SettlesInAnyOrder S k a (stops p) → ⊥
  no_stop P t s = refuse (lies P t s)
    where
      refuse : {n : ℕ} {φ : ℕ → ℕ} {u : Work} {p : Stop} → Within n φ u (stops p) → ⊥
      refuse h = elim h [ ]

module _ (S T : Setting) (LS : Limits S.sheet) (LT : Limits T.sheet) (k : ℕ) (A : AsksAlike S T k) (B : AsksAlike T S k) (K : (u : Work) → KnowsAsMuch S T u) (H : (u : Work) → KnowsAsMuch T S u) where
  mutual_of : {a b u v : Work} → Paired S T a b → SettlesInAnyOrder S k a (goes u false) → SettlesInAnyOrder T k b (goes v false) → Mutual S T k a b u v
  mutual_of {a} {b} {u} {v} P s t =
      let X : Lying a.next (send a.spans v.next P.twins.φ) v u = lying (lies S T LT k A K P t s) in
      let Y : Lying b.next (send b.spans u.next P.twins.ψ) u v = lying (lies T S LS k B H (paired_back P) s t) in
      record {
        starts = P;
        from_one = settled_from LS P.one s;
        from_other = settled_from LT P.other t;
        duties_one = X.distinct;
        duties_other = Y.distinct;
        χ = X.names;
        ω = Y.names;
        there = X.part;
        back = Y.part;
        as_there = X.same;
        as_back = Y.same;
      }

  meet : {a b : Work} {o p : Outcome} → Paired S T a b → SettlesInAnyOrder S k a o → SettlesInAnyOrder T k b p → Meet S T k a b o p
  meet P (comes_to_rest x e) (comes_to_rest y f) = meet_at_rest (mutual_of P (comes_to_rest x e) (comes_to_rest y f))
  meet P (comes_to_rest x e) (meets_stop y f) = absurd (no_stop T S LS k B H (paired_back P) (comes_to_rest x e) (meets_stop y f))
  meet P (meets_stop x e) (comes_to_rest y f) = absurd (no_stop S T LT k A K P (comes_to_rest y f) (meets_stop x e))
  meet P (meets_stop x e) (meets_stop y f) = meet_no_rest (stops_broken P.one (meets_stop x e)) (stops_broken P.other (meets_stop y f))

pub same_outcome : {S T : Setting} {k : ℕ} {a b : Work} {o p : Outcome} → Meet S T k a b o p → SameOutcome o p
same_outcome (meet_at_rest M) = both_rest (rests_same M) (open_same M) (next_same M)
same_outcome (meet_no_rest x y) = neither_rests x y

-- two steps that come to the same
pub data MeetSteps (S T : Setting) : Step → Step → Type 0 where
  meet_recorded : {x : List ℤ} {w v : Work} → Paired S T w v → MeetSteps S T (recorded x w) (recorded x v)
  meet_finished : {x : List ℤ} → MeetSteps S T (finished x) (finished x)
  meet_undetermined : {x : LeftOpen} → MeetSteps S T (stopped (Undetermined x)) (stopped (Undetermined x))
  meet_broken : {p q : Stop} → Broken p → Broken q → MeetSteps S T (stopped p) (stopped q)

-- steps of two kinds do not
module _ {S T : Setting} where
  pub not_finished_recorded : {x y : List ℤ} {w : Work} → MeetSteps S T (finished x) (recorded y w) → ⊥
  not_finished_recorded m = elim m [ ]

  pub not_stopped_recorded : {p : Stop} {y : List ℤ} {w : Work} → MeetSteps S T (stopped p) (recorded y w) → ⊥
  not_stopped_recorded m = elim m [ ]

  pub not_finished_stopped : {x : List ℤ} {p : Stop} → MeetSteps S T (finished x) (stopped p) → ⊥
  not_finished_stopped m = elim m [ ]

  pub not_stopped_finished : {x : List ℤ} {p : Stop} → MeetSteps S T (stopped p) (finished x) → ⊥
  not_stopped_finished m = elim m [ ]

  pub not_recorded_finished : {x y : List ℤ} {w : Work} → MeetSteps S T (recorded x w) (finished y) → ⊥
  not_recorded_finished m = elim m [ ]

  pub not_recorded_stopped : {x : List ℤ} {w : Work} {p : Stop} → MeetSteps S T (recorded x w) (stopped p) → ⊥
  not_recorded_stopped m = elim m [ ]

module _ {S T : Setting} {k : ℕ} {a b u v : Work} (M : Mutual S T k a b u v) where
  meet_closed : (n : ℕ) (c : End) → u.ends 0 ≡ c → MeetSteps S T (closed_by c n u) (closed_by c n v)
  meet_closed n Unknown e = meet_undetermined
  meet_closed n On e = subst (λ z. MeetSteps S T (recorded (state_of n u) (next_work u)) (recorded z (next_work v))) (state_same M n) (meet_recorded (next_paired M e))
  meet_closed n Last e = subst (λ z. MeetSteps S T (finished (state_of n u)) (finished z)) (state_same M n) meet_finished

  meet_judged : (n : ℕ) (q : Option LeftOpen) → MeetSteps S T (judged_by q n u) (judged_by q n v)
  meet_judged n None = subst (λ c. MeetSteps S T (closed_by (u.ends 0) n u) (closed_by c n v)) (whole_same M) (meet_closed n (u.ends 0) refl)
  meet_judged n (Some x) = meet_undetermined

meet_steps : {S T : Setting} {k : ℕ} {a b : Work} {o p : Outcome} (n : ℕ) → Meet S T k a b o p → MeetSteps S T (step_of n o) (step_of n p)
meet_steps {S} {T} n (meet_at_rest {u = u} {v = v} M) = subst (λ q. MeetSteps S T (judged_by (left_open n u) n u) (judged_by q n v)) (open_same M n) (meet_judged M n (left_open n u))
meet_steps n (meet_no_rest x y) = meet_broken x y

-- ---- runs

first_like : (p : ℕ) → Like (λ s. s) (λ s. s) (first_work p) (first_work p)
first_like p = record {
  spans = λ t m. here (ap (span_renamed (λ s. s)) (only t m));
  duties = λ d m. here (ap (duty_renamed (λ s. s)) (alone d m));
  back = λ s h. refl;
  whole = refl;
  has_whole = record { span = whole_span; inside = here refl; named = refl };
}
  where
    only : (t : Span) → t ∈ (whole_span ∷ []) → t ≡ whole_span
    only t (here e) = e
    only t (there q) = elim q [ ]

    alone : (d : Duty) → d ∈ (plain p 0 ∷ []) → d ≡ plain p 0
    alone d (here e) = e
    alone d (there q) = elim q [ ]

-- two runs with equal records, the next states of which start with paired works
pub record Together (S T : Setting) (q r : List (List ℤ)) (w v : Work) : Type 0 where
  pub equal : q ≡ r
  pub paired : Paired S T w v

-- a recorded state, and one that is the same
pub record Recorded (S T : Setting) (x y : List ℤ) (w v : Work) : Type 0 where
  pub state : x ≡ y
  pub paired : Paired S T w v

pub both_recorded : {S T : Setting} {x y : List ℤ} {w v : Work} → MeetSteps S T (recorded x w) (recorded y v) → Recorded S T x y w v
both_recorded (meet_recorded P) = record { state = refl; paired = P }

pub same_more : {q r : List (List ℤ)} {x y : List ℤ} → q ≡ r → x ≡ y → (q ++ (x ∷ [])) ≡ (r ++ (y ∷ []))
same_more {q} {r} {x} {y} e p = ap (λ z. z ++ (x ∷ [])) e ∙ ap (λ z. r ++ (z ∷ [])) p

module _ (c : Content) (L : Limits c) (f g : ℕ → ℕ → Option ℤ) (R : SameReadings f g) where
  abbrev S : Setting
  S = under c f

  abbrev T : Setting
  T = under c g

  pub meet_at : {a b : Work} {o p : Outcome} (k : ℕ) → Paired S T a b → SettlesInAnyOrder S k a o → SettlesInAnyOrder T k b p → Meet S T k a b o p
  meet_at k =
      meet S T L L k (record { ranges = λ x v. refl; readings = λ x. R x k; statements = λ p. refl }) (record { ranges = λ x v. refl; readings = λ x. sym (R x k); statements = λ p. refl })
      (λ u. same_knows S T u refl) (λ u. same_knows T S u refl)

  pub steps_at : {a b : Work} {s t : Step} (k j : ℕ) → k ≡ j → Paired S T a b → StepsBy in_any_order S k a s → StepsBy in_any_order T j b t → MeetSteps S T s t
  steps_at {b = b} k j e P x y = subst₂ (MeetSteps S T) x.comes y.comes (meet_steps (width S) (meet_at k P x.settles (subst (λ i. SettlesInAnyOrder T i b y.outcome) (sym e) y.settles)))

  pub together : {q r : List (List ℤ)} {w v : Work} → OngoingBy in_any_order S q w → OngoingBy in_any_order T r v → length q ≡ length r → Together S T q r w v
  together start start h =
      record { equal = refl; paired = record { one = first_start c.run; other = first_start c.run; twins = record { φ = λ s. s; ψ = λ s. s; there = first_like c.run; back = first_like c.run }; next = refl } }
  together start (onward {r = r} {x = y} b t) h = absurd (omega (arith, longer r y))
  together (onward {r = q} {x = x} a s) start h = absurd (omega (arith, longer q x))
  together (onward {r = q} {w = w} {u = u} {x = x} a s) (onward {r = r} {w = v} {u = z} {x = y} b t) h =
      let n : length q ≡ length r = omega (arith, h, longer q x, longer r y) in
      let i : Together S T q r w v = together a b n in
      let m : Recorded S T x y u z = both_recorded (steps_at (length q) (length r) n i.paired s t) in
      record { equal = same_more i.equal m.state; paired = m.paired }
