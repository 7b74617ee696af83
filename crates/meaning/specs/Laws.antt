-- The laws that join settling to the meaning of a sheet. Assumes nothing.
use Rattle.std.specs.Prelude.{◌≡◌, ℕ, ◌+◌, ◌<◌, ◌≤◌, Bool, List, length, take, ℤ, Option}
use Rattle.sheet.specs.Content.{Content}
use Rattle.sheet.specs.Limits.{Limits}
use Rattle.feed.specs.Readings.{SameReadings}
use Rattle.meaning.specs.declared.duties.Stop.TheVariants.{Contradiction}
use Rattle.meaning.specs.Intervals.{Setting, under, States}
use Rattle.meaning.specs.Holds.{Satisfies}
use Rattle.meaning.specs.Work.{Work, Outcome, goes}
use Rattle.meaning.specs.Effects.{most_duties, most_spans}
use Rattle.meaning.specs.Passes.{visit_duties, visit_duties_else, pass_fuel, pass}
use Rattle.meaning.specs.Visiting.{Visiting}
use Rattle.meaning.specs.Runs.{Step, Steps, Ongoing, OngoingBy, FinishedBy, MetStopBy, Record}

-- a state settles, in one way: it comes to some step, and to no other
abbrev pub SettlingEnds : Type 0
SettlingEnds = (S : Setting) → Limits S.sheet → (r : List (List ℤ)) (w : Work) → Ongoing S r w → (s : Step) × Steps S (length r) w s × ((t : Step) → Steps S (length r) w t → t ≡ s)

-- a finished record satisfies its sheet, and is the only interval that does, in whichever order its states were visited
abbrev pub FinishedIsTheOne : Type 0
FinishedIsTheOne = (S : Setting) → Limits S.sheet → (i : Visiting) (r : List (List ℤ)) → FinishedBy i S r → Satisfies S r × ((l : List (List ℤ)) → Satisfies S l → l ≡ r)

-- while a run goes on, its record consists of states of the sheet, and every interval that satisfies the sheet is longer and begins with it;
-- so it is too where a run has met a stop, since its record is still that of a run that went on
abbrev pub OpenBeginsAll : Type 0
OpenBeginsAll =
    (S : Setting) → Limits S.sheet → (i : Visiting) (r : List (List ℤ)) (w : Work) → OngoingBy i S r w
    → States S r × ((l : List (List ℤ)) → Satisfies S l → (length r < length l) × (take (length r) l ≡ r))

-- after a contradiction, in whichever order it was met, no interval satisfies the sheet
abbrev pub ContradictionLeavesNone : Type 0
ContradictionLeavesNone = (S : Setting) → Limits S.sheet → (i : Visiting) (r : List (List ℤ)) (p : ℕ) → MetStopBy i S r (Contradiction p) → (l : List (List ℤ)) → Satisfies S l → ⊥

-- equal sheets and equal readings give equal records at equal counts
abbrev pub EqualRunsAgree : Type 0
EqualRunsAgree =
    (c : Content) (f g : ℕ → ℕ → Option ℤ) → SameReadings f g
    → (q r : List (List ℤ)) → Record (under c f) q → Record (under c g) r → length q ≡ length r → q ≡ r

-- the lists keep within their limits
pub record Roomy (w : Work) : Type 0 where
  pub duties : length w.duties ≤ most_duties
  pub later : length w.later ≤ most_duties
  pub spans : length w.spans ≤ most_spans

-- the fuel of a pass never runs out, in every work that keeps within the limits, as each work does that a state starts with or that a pass leaves
pub record FuelSuffices : Type 0 where
  -- whatever outcome there were for fuel that runs out, the visits don't come to it
  pub never : (S : Setting) (k : ℕ) (o : Outcome) (w : Work) → Roomy w → visit_duties_else o S k pass_fuel 0 w ≡ visit_duties S k pass_fuel 0 w
  -- more fuel would change nothing
  pub enough : (S : Setting) (k extra : ℕ) (w : Work) → Roomy w → visit_duties S k (pass_fuel + extra) 0 w ≡ visit_duties S k pass_fuel 0 w
  pub started : (S : Setting) (r : List (List ℤ)) (w : Work) → Ongoing S r w → Roomy w
  pub passed : (S : Setting) (k : ℕ) (w u : Work) (c : Bool) → Roomy w → pass S k w ≡ goes u c → Roomy u
