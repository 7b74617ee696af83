-- Two orders of visits come to the same in whole runs, and in how they end: so the order of visits makes no difference.
use Rattle.std.proofs.Common.{◌≡◌, ℕ, ◌<◌, ◌≤◌, List, [], ◌∷◌, ◌++◌, length, ℤ, Some, None, Option, ⊎_elim, sym, refl, subst, arith}
use native.Mathlib.Decide.{ℕ_discrete}
use Rattle.std.proofs.lemmas.Bool.{cases_lt}
use Rattle.sheet.specs.Content.{Content}
use Rattle.sheet.specs.Limits.{Limits}
use Rattle.feed.specs.Readings.{SameReadings}
use Rattle.meaning.specs.declared.duties.Stop.{Stop}
use Rattle.meaning.specs.Intervals.{Setting, under, width}
use Rattle.meaning.specs.Work.{Work, Outcome}
use Rattle.meaning.specs.Passes.{Settles}
use Rattle.meaning.specs.Visiting.{SettlesInAnyOrder, Visiting, in_passes, in_any_order, SettlesBy}
use Rattle.meaning.specs.Runs.{first_work, step_of, Step, stopped, recorded, finished, StepsBy, OngoingBy, start, onward, FinishedBy, finish, stop, RecordBy, open_record, finished_record}
use Rattle.meaning.specs.AnyOrder.{EndedBy, has_finished, has_stopped, SameVerdict, both_finished, both_undetermined, both_broken, OrdersEnd, StatesAgree, RunsAgree, OrderMakesNoDifference}
use Rattle.meaning.proofs.Lists.{longer}
use Rattle.meaning.proofs.Measure.{left}
use Rattle.meaning.proofs.StaysWellFormed.{settles_total}
use Rattle.meaning.proofs.AnyVisits.{visits_move, visit_same, visit_falls}
use Rattle.meaning.proofs.Starts.{Start}
use Rattle.meaning.proofs.AnyRuns.{start_of, settles_any, steps_any, open_any, finished_any, stopped_any, comes_to_an_end}
use Rattle.meaning.proofs.SameRests.{starts_same}
use Rattle.meaning.proofs.OrderLaw.{MeetSteps, meet_recorded, meet_finished, meet_undetermined, meet_broken, not_finished_recorded, not_stopped_recorded, not_finished_stopped, not_stopped_finished, same_outcome, Together, meet_at, steps_at, together, same_more}

ended_any : {S : Setting} (L : Limits S.sheet) (i : Visiting) {r : List (List ℤ)} {x : Option Stop} → EndedBy i S r x → EndedBy in_any_order S r x
ended_any L i (has_finished h) = has_finished (finished_any L i h)
ended_any L i (has_stopped h) = has_stopped (stopped_any L i h)

-- ---- a run that has gone on was at each earlier count

-- a run at its count n, with the state that it recorded then
record Earlier (S : Setting) (n : ℕ) : Type 0 where
  so_far : List (List ℤ)
  work : Work
  run : OngoingBy in_any_order S so_far work
  counted : length so_far ≡ n
  state : List ℤ
  after : Work
  step : StepsBy in_any_order S (length so_far) work (recorded state after)

earlier : {S : Setting} {r : List (List ℤ)} {w : Work} (n : ℕ) → OngoingBy in_any_order S r w → n < length r → Earlier S n
earlier n start l = absurd (omega arith)
earlier {S} n (onward {r = r} {w = w} {u = u} {x = x} o s) l = by (ℕ_discrete (length r) n) (earlier n o)
  where
    by : Dec (length r ≡ n) → (n < length r → Earlier S n) → Earlier S n
    by (yes e) h = record { so_far = r; work = w; run = o; counted = e; state = x; after = u; step = s }
    by (no e) h = h (omega (arith, l, longer r x, e))

-- the record and the verdict of a run, by its last step and the record before
data Closes (q : List (List ℤ)) : Step → List (List ℤ) → Option Stop → Type 0 where
  by_finish : {x : List ℤ} → Closes q (finished x) (q ++ (x ∷ [])) None
  by_stop : {p : Stop} → Closes q (stopped p) q (Some p)

-- the last step of a run that has ended
record LastStep (S : Setting) (r : List (List ℤ)) (x : Option Stop) : Type 0 where
  before : List (List ℤ)
  work : Work
  run : OngoingBy in_any_order S before work
  step : Step
  steps : StepsBy in_any_order S (length before) work step
  closes : Closes before step r x

last_step : {S : Setting} {r : List (List ℤ)} {x : Option Stop} → EndedBy in_any_order S r x → LastStep S r x
last_step (has_finished (finish o s)) = record { before = _; work = _; run = o; step = _; steps = s; closes = by_finish }
last_step (has_stopped (stop o s)) = record { before = _; work = _; run = o; step = _; steps = s; closes = by_stop }

not_longer : {q r : List (List ℤ)} {t : Step} {x : Option Stop} → Closes q t r x → length q ≤ length r
not_longer {q} (by_finish {x = x}) = omega (arith, longer q x)
not_longer by_stop = omega arith

-- a step that closes a run does not meet one that goes on
closed_not_on : {S T : Setting} {q r : List (List ℤ)} {t : Step} {x : Option Stop} {y : List ℤ} {w : Work} → Closes q t r x → MeetSteps S T t (recorded y w) → ⊥
closed_not_on by_finish m = not_finished_recorded m
closed_not_on by_stop m = not_stopped_recorded m

-- two that close runs with equal records so far
record Alike (q r : List (List ℤ)) (x y : Option Stop) : Type 0 where
  equal : q ≡ r
  verdict : SameVerdict x y

closed_alike : {S T : Setting} {a b q r : List (List ℤ)} {s t : Step} {x y : Option Stop} → a ≡ b → Closes a s q x → Closes b t r y → MeetSteps S T s t → Alike q r x y
closed_alike e by_finish by_finish meet_finished = record { equal = same_more e refl; verdict = both_finished }
closed_alike e by_finish by_stop m = absurd (not_finished_stopped m)
closed_alike e by_stop by_finish m = absurd (not_stopped_finished m)
closed_alike e by_stop by_stop meet_undetermined = record { equal = e; verdict = both_undetermined }
closed_alike e by_stop by_stop (meet_broken a b) = record { equal = e; verdict = both_broken a b }

-- ---- two runs

module _ (c : Content) (L : Limits c) (f g : ℕ → ℕ → Option ℤ) (R : SameReadings f g) where
  -- the one does not go on beyond the last step of the other
  goes_no_further : {q r : List (List ℤ)} {x : Option Stop} {w : Work} (e : LastStep (under c f) q x) → OngoingBy in_any_order (under c g) r w → length e.before < length r → ⊥
  goes_no_further e o l =
      let h : Earlier (under c g) (length e.before) = earlier (length e.before) o l in
      let m : Together (under c f) (under c g) e.before h.so_far e.work h.work = together c L f g R e.run h.run (sym h.counted) in
      closed_not_on e.closes (steps_at c L f g R (length e.before) (length h.so_far) (sym h.counted) m.paired e.steps h.step)

flipped : {f g : ℕ → ℕ → Option ℤ} → SameReadings f g → SameReadings g f
flipped R x k = sym (R x k)

module _ (c : Content) (L : Limits c) (f g : ℕ → ℕ → Option ℤ) (R : SameReadings f g) where
  -- so two that have ended did so at one count, alike
  ended_alike : {q r : List (List ℤ)} {x y : Option Stop} → LastStep (under c f) q x → LastStep (under c g) r y → Alike q r x y
  ended_alike {q} {r} {x} {y} a b = by (ℕ_discrete (length a.before) (length b.before))
    where
      apart : (length a.before ≡ length b.before → ⊥) → ⊥
      apart n =
          ⊎_elim (λ (l : length a.before < length b.before). goes_no_further c L f g R a b.run l)
          (λ (l : length b.before ≤ length a.before). goes_no_further c L g f (flipped R) b a.run (omega (arith, n))) (cases_lt (length a.before) (length b.before))

      by : Dec (length a.before ≡ length b.before) → Alike q r x y
      by (yes e) =
          let m : Together (under c f) (under c g) a.before b.before a.work b.work = together c L f g R a.run b.run e in
          closed_alike m.equal a.closes b.closes (steps_at c L f g R (length a.before) (length b.before) e m.paired a.steps b.steps)
      by (no e) = absurd (apart e)

  -- no order leads beyond the state at which one has ended
  no_longer : {q r : List (List ℤ)} {x : Option Stop} {w : Work} → LastStep (under c f) q x → OngoingBy in_any_order (under c g) r w → length r ≤ length q
  no_longer {q} {r} e o =
      ⊎_elim (λ (l : length e.before < length r). absurd (goes_no_further c L f g R e o l)) (λ (l : length r ≤ length e.before). omega (arith, l, not_longer e.closes)) (cases_lt (length e.before) (length r))

  -- and a run that goes on has fewer states than one that has finished
  open_below : {q r : List (List ℤ)} {w : Work} → FinishedBy in_any_order (under c f) q → OngoingBy in_any_order (under c g) r w → length r < length q
  open_below {r = r} (finish {r = q} {x = x} a s) o =
      let e : LastStep (under c f) (q ++ (x ∷ [])) None = record { before = q; work = _; run = a; step = _; steps = s; closes = by_finish } in
      ⊎_elim (λ (l : length q < length r). absurd (goes_no_further c L f g R e o l)) (λ (l : length r ≤ length q). omega (arith, l, longer q x)) (cases_lt (length q) (length r))

module _ (c : Content) (L : Limits c) (f g : ℕ → ℕ → Option ℤ) (R : SameReadings f g) where
  record_alike : {q r : List (List ℤ)} (i j : Visiting) → RecordBy i (under c f) q → RecordBy j (under c g) r → length q ≡ length r → q ≡ r
  record_alike i j (open_record w a) (open_record v b) e = (together c L f g R (open_any L i a) (open_any L j b) e).equal
  record_alike i j (open_record w a) (finished_record b) e = absurd (omega (arith, open_below c L g f (flipped R) (finished_any L j b) (open_any L i a), e))
  record_alike i j (finished_record a) (open_record v b) e = absurd (omega (arith, open_below c L f g R (finished_any L i a) (open_any L j b), e))
  record_alike i j (finished_record a) (finished_record b) e = (ended_alike c L f g R (last_step (has_finished (finished_any L i a))) (last_step (has_finished (finished_any L j b)))).equal

-- ---- a run of either kind that comes to the same

recorded_too : {S T : Setting} {x : List ℤ} {w : Work} {t : Step} → MeetSteps S T (recorded x w) t → (v : Work) × (t ≡ recorded x v)
recorded_too (meet_recorded {v = v} P) = (v, refl)

finished_too : {S T : Setting} {x : List ℤ} {t : Step} → MeetSteps S T (finished x) t → t ≡ finished x
finished_too meet_finished = refl

stopped_too : {S T : Setting} {p : Stop} {t : Step} → MeetSteps S T (stopped p) t → (q : Stop) × (t ≡ stopped q) × SameVerdict (Some p) (Some q)
stopped_too meet_undetermined = (_, refl, both_undetermined)
stopped_too (meet_broken {q = q} a b) = (q, refl, both_broken a b)

settles_by : {S : Setting} → Limits S.sheet → (j : Visiting) (k : ℕ) {w : Work} → Start S w → (o : Outcome) × SettlesBy j S k w o
settles_by {S} L in_passes k {w} A = settles_total S L k w A.well_formed
settles_by {S} L in_any_order k {w} A = let s : (o : Outcome) × Settles S k w o = settles_total S L k w A.well_formed in (s.0, settles_any L in_passes A s.1)

steps_by : {S : Setting} → Limits S.sheet → (j : Visiting) (k : ℕ) {w : Work} → Start S w → (t : Step) × StepsBy j S k w t
steps_by {S} L j k A = let s = settles_by L j k A in (step_of (width S) s.0, record { outcome = s.0; settles = s.1; comes = refl })

module _ (c : Content) (L : Limits c) (f g : ℕ → ℕ → Option ℤ) (R : SameReadings f g) (j : Visiting) where
  -- the step that a run of the other kind takes where this one takes s
  record StepToo (q : List (List ℤ)) (v : Work) (s : Step) : Type 0 where
    step : Step
    steps : StepsBy j (under c g) (length q) v step
    meets : MeetSteps (under c f) (under c g) s step

  step_too : {q : List (List ℤ)} {w v : Work} {s : Step} → OngoingBy in_any_order (under c f) q w → OngoingBy j (under c g) q v → StepsBy in_any_order (under c f) (length q) w s → StepToo q v s
  step_too {q} {w} {v} o d s =
      let m : Together (under c f) (under c g) q q w v = together c L f g R o (open_any L j d) refl in
      let t : (t : Step) × StepsBy j (under c g) (length q) v t = steps_by L j (length q) m.paired.other in
      record { step = t.0; steps = t.1; meets = steps_at c L f g R (length q) (length q) refl m.paired s (steps_any L j m.paired.other t.1) }

  open_too : {q : List (List ℤ)} {w : Work} → OngoingBy in_any_order (under c f) q w → (v : Work) × OngoingBy j (under c g) q v
  open_too start = (first_work c.run, start)
  open_too (onward {r = r} {w = w} {u = u} {x = x} o s) =
      let d = open_too o in
      let t : StepToo r d.0 (recorded x u) = step_too o d.1 s in
      let e = recorded_too t.meets in
      (e.0, onward d.1 (subst (λ z. StepsBy j (under c g) (length r) d.0 z) e.1 t.steps))

  ended_too : {q : List (List ℤ)} {x : Option Stop} → EndedBy in_any_order (under c f) q x → (y : Option Stop) × EndedBy j (under c g) q y × SameVerdict x y
  ended_too (has_finished (finish {r = r} {x = x} o s)) =
      let d = open_too o in
      let t : StepToo r d.0 (finished x) = step_too o d.1 s in
      (None, has_finished (finish d.1 (subst (λ z. StepsBy j (under c g) (length r) d.0 z) (finished_too t.meets) t.steps)), both_finished)
  ended_too (has_stopped (stop {r = r} {s = p} o s)) =
      let d = open_too o in
      let t : StepToo r d.0 (stopped p) = step_too o d.1 s in
      let e = stopped_too t.meets in
      (Some e.0, has_stopped (stop d.1 (subst (λ z. StepsBy j (under c g) (length r) d.0 z) e.1 t.steps)), e.2)

orders_end : (S : Setting) → Limits S.sheet → OrdersEnd S
orders_end S L = record {
  passes = λ r w o p s. settles_any L in_passes (start_of L o) s;
  engines = λ r w o. open_any L in_passes o;
  some_outcome = λ r w u o a. comes_to_an_end L o a;
  no_endless_change = λ r w o. (left (width S), λ u v a. (visit_same, visit_falls S L (visits_move S L (start_of L o).well_formed a).1));
}

states_agree : (c : Content) (f g : ℕ → ℕ → Option ℤ) → Limits c → SameReadings f g → StatesAgree (under c f) (under c g)
states_agree c f g L R q r w v a b e =
    let m : Together (under c f) (under c g) q r w v = together c L f g R a b e in (
      m.equal,
      starts_same m.paired,
      λ o p s t. same_outcome (meet_at c L f g R (length q) m.paired s (subst (λ k. SettlesInAnyOrder (under c g) k v p) (sym e) t)),
    )

runs_agree : (c : Content) (f g : ℕ → ℕ → Option ℤ) → Limits c → SameReadings f g → (i j : Visiting) → RunsAgree (under c f) (under c g) i j
runs_agree c f g L R i j = record {
  records = λ q r a b e. record_alike c L f g R i j a b e;
  verdicts = λ q r x y a b. let m : Alike q r x y = ended_alike c L f g R (last_step (ended_any L i a)) (last_step (ended_any L j b)) in (m.equal, m.verdict);
  finished = λ q r w a o. open_below c L f g R (finished_any L i a) (open_any L j o);
  stopped = λ q r s w a o. no_longer c L f g R (last_step (has_stopped (stopped_any L i a))) (open_any L j o);
  reaches = λ q w o. open_too c L f g R j (open_any L i o);
  reaches_end = λ q x e. ended_too c L f g R j (ended_any L i e);
}

pub order_makes_no_difference : OrderMakesNoDifference
order_makes_no_difference = record { orders = orders_end; states = states_agree; runs = runs_agree }
