-- What is tried out comes true.
use Rattle.std.proofs.Common.{◌≡◌, ℕ, zero, suc, true, false, List, [], ◌∷◌, ◌++◌, length, ℤ, Some, None, Ok, Err, Option, Result, refl}
use Rattle.sheet.specs.Content.{Content}
use Rattle.load.specs.declared.refusals.Refusal.{Refusal}
use Rattle.load.specs.Parsing.{parse_sheet}
use Rattle.meaning.specs.Intervals.{Setting, under, width}
use Rattle.meaning.specs.Work.{Work, Outcome, stops, goes}
use Rattle.meaning.specs.Passes.{pass, Settles, rests, breaks, again}
use Rattle.meaning.specs.Runs.{Step, stopped, recorded, finished, step_of, first_work, Ongoing, start, onward, finish, stop}
use Rattle.trials.specs.Trials.{Trial, trial_text, silence, RunEnds, ComesTrue, AllTrue, none_left, one_more}
use Rattle.trials.proofs.PlayedRuns.{fuel, Played, after_pass, passes, after_step, after_passes, plays, plays_loaded, said, tried_out, joined_to, all_tried_out}

-- an outcome that is answered is what the state settles to
abbrev Settled : Setting → ℕ → Work → Option Outcome → Type 0
Settled S k w None = Unit {0}
Settled S k w (Some o) = Settles S k w o

followed : (S : Setting) (k : ℕ) (w u : Work) → pass S k w ≡ goes u true → (o : Option Outcome) → Settled S k u o → Settled S k w o
followed S k w u e None h = tt
followed S k w u e (Some o) h = again e h

settled : (S : Setting) (k n : ℕ) (w : Work) → Settled S k w (passes S k n w)
settled S k zero w = tt
settled S k (suc n) w = by (pass S k w) refl (settled S k n)
  where
    by : (o : Outcome) → pass S k w ≡ o → ((u : Work) → Settled S k u (passes S k n u)) → Settled S k w (after_pass (passes S k n) o)
    by (stops s) e ih = breaks e
    by (goes u false) e ih = rests e
    by (goes u true) e ih = followed S k w u e (passes S k n u) (ih u)

-- a run that is answered ends so
abbrev Ended : Setting → Option Played → Type 0
Ended S None = Unit {0}
Ended S (Some x) = RunEnds S x.states x.ending

played : (S : Setting) (n : ℕ) (r : List (List ℤ)) (w : Work) → Ongoing S r w → Ended S (plays S n r w)
played S zero r w g = tt
played S (suc n) r w g = by (passes S (length r) fuel w) (settled S (length r) fuel w) (played S n)
  where
    More : Type 0
    More = (q : List (List ℤ)) (u : Work) → Ongoing S q u → Ended S (plays S n q u)

    step : (o : Outcome) → Settles S (length r) w o → (s : Step) → step_of (width S) o ≡ s → More → Ended S (after_step r (plays S n) s)
    step o h (stopped s) e ih = stop g (record { outcome = o; settles = h; comes = e })
    step o h (recorded x u) e ih = ih (r ++ x ∷ []) u (onward g (record { outcome = o; settles = h; comes = e }))
    step o h (finished x) e ih = finish g (record { outcome = o; settles = h; comes = e })

    by : (o : Option Outcome) → Settled S (length r) w o → More → Ended S (after_passes (width S) r (plays S n) o)
    by None h ih = tt
    by (Some o) h ih = step o h (step_of (width S) o) refl ih

-- a trial that is answered comes true
abbrev TrueIf : Option Trial → Type 0
TrueIf None = Unit {0}
TrueIf (Some t) = ComesTrue t

sayable : (ls : List (List ℕ)) (c : Content) → parse_sheet (trial_text ls) ≡ Ok c → (x : Option Played) → Ended (under c silence) x → TrueIf (said ls x)
sayable ls c e None h = tt
sayable ls c e (Some x) h = record { sheet = c; accepted = e; ends = h }

tried : (ls : List (List ℕ)) → TrueIf (tried_out ls)
tried ls = by (parse_sheet (trial_text ls)) refl
  where
    by : (v : Result Content Refusal) → parse_sheet (trial_text ls) ≡ v → TrueIf (said ls (plays_loaded v))
    by (Ok c) e = sayable ls c e (plays (under c silence) fuel [] (first_work c.run)) (played (under c silence) fuel [] (first_work c.run) start)
    by (Err f) e = tt

-- trials that are answered come true
abbrev pub AllTrueIf : Option (List Trial) → Type 0
AllTrueIf None = Unit {0}
AllTrueIf (Some ts) = AllTrue ts

added : (t : Option Trial) → TrueIf t → (ts : Option (List Trial)) → AllTrueIf ts → AllTrueIf (joined_to t ts)
added None h ts k = tt
added (Some t) h None k = tt
added (Some t) h (Some ts) k = one_more h k

pub all_tried : (l : List (List (List ℕ))) → AllTrueIf (all_tried_out l)
all_tried [] = none_left
all_tried (ls ∷ l) = added (tried_out ls) (tried ls) (all_tried_out l) (all_tried l)
