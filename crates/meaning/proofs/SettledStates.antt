-- What a recorded and what a finished state say of the settled work, and the record of a run as a function.
use Rattle.std.proofs.Common.{◌≡◌, ℕ, zero, suc, ◌+◌, ◌<◌, ◌≤◌, Bool, true, false, cond, List, [], ◌∷◌, length, get_or, ℤ, pos, Some, None, Option, unwrap_or, sym, refl, ap, subst, arith}
use native.Mathlib.Decide.{ℕ_discrete}
use Rattle.std.proofs.lemmas.Bool.{false≢true, and_parts}
use Rattle.std.proofs.lemmas.List.FromFn.{length-map-range_with_len, get_or-map-range_with_len}
use Rattle.value.specs.declared.end.End.{End}
use Rattle.value.specs.declared.end.End.TheVariants.{Unknown, On, Last}
use Rattle.value.proofs.Numbers.{MatchesNumber}
use Rattle.meaning.specs.declared.duties.LeftOpen.{LeftOpen}
use Rattle.meaning.specs.declared.duties.Span.{Span}
use Rattle.meaning.specs.Intervals.{Setting, width}
use Rattle.meaning.specs.Work.{Work, Outcome, stops, goes}
use Rattle.meaning.specs.Passes.{Settles}
use Rattle.meaning.specs.Visiting.{SettlesInAnyOrder, comes_to_rest, Visiting, in_passes, in_any_order, SettlesBy}
use Rattle.meaning.specs.Runs.{next_work, lowest_by, lowest_unknown, is_ended, all_ended, left_open, state_of, Step, stopped, recorded, finished, closed_by, judged_by, step_of, StepsBy}
use Rattle.meaning.specs.WellFormed.{◌∈◌, here, there, IsEnded}
use Rattle.meaning.proofs.Lists.{none_some}
use Rattle.meaning.proofs.KnownNumbers.{IsGiven}
use Rattle.meaning.proofs.RunsInSomeOrder.{Complete}
use Rattle.meaning.proofs.OneOutcome.{settles_quiet}

-- a step that stops
abbrev Stopping : Step → Type 0
Stopping (stopped s) = Unit {0}
Stopping (recorded x u) = ⊥
Stopping (finished x) = ⊥

-- the parts of a step: its state, the work after it, and the end of the whole interval
abbrev pub state_in : Step → List ℤ
state_in (stopped s) = []
state_in (recorded x u) = x
state_in (finished x) = x

abbrev pub work_after : Work → Step → Work
work_after w (stopped s) = w
work_after w (recorded x u) = u
work_after w (finished x) = w

abbrev pub whole_end : Step → End
whole_end (stopped s) = Unknown
whole_end (recorded x u) = On
whole_end (finished x) = Last

-- nothing is left open in n variables from y on
lowest_none : (f : ℕ → Option ℤ) (y n : ℕ) (o : Option LeftOpen) → lowest_unknown f y n o ≡ None → ((x : ℕ) → y ≤ x → x < y + n → IsGiven (f x)) × (o ≡ None)
lowest_none f y zero o e = ((λ x a b. absurd (omega arith)), e)
lowest_none f y (suc n) o e = by (f y) refl e (lowest_none f (suc y) n o)
  where
    by : (q : Option ℤ) → f y ≡ q → lowest_by q y (lowest_unknown f (suc y) n o) ≡ None → (lowest_unknown f (suc y) n o ≡ None → ((x : ℕ) → suc y ≤ x → x < suc y + n → IsGiven (f x)) × (o ≡ None))
        → ((x : ℕ) → y ≤ x → x < y + suc n → IsGiven (f x)) × (o ≡ None)
    by None p e ih = absurd (none_some (LeftOpen.Variable y) (sym e))
    by (Some v) p e ih = let r = ih e in ((λ x a b. at x a b (ℕ_discrete y x) r.0), r.1)
      where
        at : (x : ℕ) → y ≤ x → x < y + suc n → Dec (y ≡ x) → ((x : ℕ) → suc y ≤ x → x < suc y + n → IsGiven (f x)) → IsGiven (f x)
        at x a b (yes q) h = subst (λ z. IsGiven (f z)) q (subst IsGiven (sym p) tt)
        at x a b (no q) h = h x (omega arith) (omega arith)

is_ended_says : (c : End) → is_ended c ≡ true → IsEnded c
is_ended_says Unknown e = absurd (false≢true e)
is_ended_says On e = tt
is_ended_says Last e = tt

pub all_ended_says : (f : ℕ → End) (l : List Span) → all_ended f l ≡ true → (t : Span) → t ∈ l → IsEnded (f t.serial)
all_ended_says f [] e t q = elim q [ ]
all_ended_says f (x ∷ l) e t (here p) = subst (λ z. IsEnded (f z.serial)) (sym p) (is_ended_says (f x.serial) (and_parts (is_ended (f x.serial)) (all_ended f l) e).0)
all_ended_says f (x ∷ l) e t (there q) = all_ended_says f l (and_parts (is_ended (f x.serial)) (all_ended f l) e).1 t q

ended_of : (b : Bool) → cond {A = Option LeftOpen} b None (Some LeftOpen.End) ≡ None → b ≡ true
ended_of true e = refl
ended_of false e = absurd (none_some LeftOpen.End (sym e))

-- a work that leaves nothing open is complete
pub open_none : (n : ℕ) (w : Work) → left_open n w ≡ None → Complete n w
open_none n w e =
    let r = lowest_none w.known 0 n (cond (all_ended w.ends w.spans) None (Some LeftOpen.End)) e in
    record { all_given = λ x h. r.0 x (omega arith) (omega arith); all_ended_says = all_ended_says w.ends w.spans (ended_of (all_ended w.ends w.spans) r.1) }

given_or : (q : Option ℤ) → IsGiven q → MatchesNumber q (unwrap_or q (pos 0))
given_or None g = absurd g
given_or (Some v) g = refl

-- a step that does not stop, and the settled work that it comes from
pub record Steady (i : Visiting) (S : Setting) (k : ℕ) (w : Work) (s : Step) : Type 0 where
  pub work : Work
  pub settled : SettlesBy i S k w (goes work false)
  pub complete : Complete (width S) work
  pub over : work.ends 0 ≡ whole_end s
  pub state : state_of (width S) work ≡ state_in s
  pub after : next_work work ≡ work_after (next_work work) s

closed_of : (c : End) (n : ℕ) (w : Work) (s : Step) → closed_by c n w ≡ s → (Stopping s → ⊥) → (c ≡ whole_end s) × (state_of n w ≡ state_in s) × (next_work w ≡ work_after (next_work w) s)
closed_of Unknown n w s e h = absurd (h (subst Stopping e tt))
closed_of On n w s e h = (ap whole_end e, ap state_in e, ap (work_after (next_work w)) e)
closed_of Last n w s e h = (ap whole_end e, ap state_in e, ap (work_after (next_work w)) e)

-- a settled work is unchanged in the end
any_order_quiet : {S : Setting} {k : ℕ} {w v : Work} {c : Bool} → SettlesInAnyOrder S k w (goes v c) → SettlesInAnyOrder S k w (goes v false)
any_order_quiet (comes_to_rest a e) = comes_to_rest a e

quiet_by : (i : Visiting) (S : Setting) (k : ℕ) (w v : Work) (c : Bool) → SettlesBy i S k w (goes v c) → SettlesBy i S k w (goes v false)
quiet_by in_passes S k w v c q = subst (λ z. Settles S k w (goes v z)) (settles_quiet q) q
quiet_by in_any_order S k w v c q = any_order_quiet q

steady_by : (i : Visiting) (S : Setting) (k : ℕ) (w : Work) (s : Step) (o : Outcome) → SettlesBy i S k w o → step_of (width S) o ≡ s → (Stopping s → ⊥) → Steady i S k w s
steady_by i S k w s (stops p) q e h = absurd (h (subst Stopping e tt))
steady_by i S k w s (goes v c) q e h = by (left_open (width S) v) refl e
  where
    by : (l : Option LeftOpen) → left_open (width S) v ≡ l → judged_by l (width S) v ≡ s → Steady i S k w s
    by (Some x) p e = absurd (h (subst Stopping e tt))
    by None p e =
        let r = closed_of (v.ends 0) (width S) v s e h in
        record { work = v; settled = quiet_by i S k w v c q; complete = open_none (width S) v p; over = r.0; state = r.1; after = r.2 }

-- every step that does not stop is steady
pub steady : (i : Visiting) (S : Setting) (k : ℕ) (w : Work) (s : Step) → StepsBy i S k w s → (Stopping s → ⊥) → Steady i S k w s
steady i S k w s q h = steady_by i S k w s q.outcome q.settles q.comes h

-- the recorded state is the settled one
pub state_values : (n : ℕ) (w : Work) → Complete n w → (x : ℕ) → x < n → MatchesNumber (w.known x) (get_or (state_of n w) x (pos 0))
state_values n w C x h =
    subst (λ z. MatchesNumber (w.known x) z) (sym (get_or-map-range_with_len (λ y. unwrap_or (w.known y) (pos 0)) 0 n x x (pos 0) h (omega arith))) (given_or (w.known x) (C.all_given x h))

pub state_wide : (n : ℕ) (w : Work) → length (state_of n w) ≡ n
state_wide n w = length-map-range_with_len (λ y. unwrap_or (w.known y) (pos 0)) 0 n
