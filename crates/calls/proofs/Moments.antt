-- A moment of a run: what its record is, by what its advances have answered.
use Rattle.std.proofs.Common.{◌≡◌, ℕ, Bool, true, false, List, ℤ, sym, refl, ◌∙◌}
use Rattle.std.proofs.lemmas.Bool.{true≢false, false≢true}
use Rattle.sheet.specs.Content.{Content}
use Rattle.meaning.specs.declared.duties.Stop.TheVariants.{Contradiction}
use Rattle.meaning.specs.Intervals.{Setting}
use Rattle.meaning.specs.Work.{Work}
use Rattle.meaning.specs.Runs.{Ongoing, Finished, MetStop, Record, open_record, finished_record, stop}
use Rattle.calls.specs.Standing.{Standing, idle, running, ended, Meant}

-- a run that no longer goes on, with its record: whether it has finished, and whether it has met a contradiction
pub data Past (S : Setting) (r : List (List ℤ)) : Bool → Bool → Type 0 where
  has_finished : Finished S r → Past S r true false
  contradicted : (p : ℕ) → MetStop S r (Contradiction p) → Past S r false true
  -- it has met another stop, or was given up
  left_off : (w : Work) → Ongoing S r w → Past S r false false

-- a run that goes on with the work w, while the sheet c is held
pub record Going (S : Setting) (c : Content) (w : Work) (r : List (List ℤ)) (x y : Bool) : Type 0 where
  pub sheet : c ≡ S.sheet
  pub so_far : Ongoing S r w
  pub unfinished : x ≡ false
  pub unrefuted : y ≡ false

-- the run that was begun last, by how the engine stands, which holds the sheet c
abbrev pub MomentIn : Setting → Standing → Content → List (List ℤ) → Bool → Bool → Type 0
MomentIn S idle c r x y = Past S r x y
MomentIn S (running k w) c r x y = Going S c w r x y
MomentIn S (ended z) c r x y = Past S r x y

abbrev pub Moment : Setting → Meant → List (List ℤ) → Bool → Bool → Type 0
Moment S e r x y = MomentIn S e.standing e.sheet r x y

-- ---- a run whose advance has answered that it finished has finished
past_finished : {S : Setting} {r : List (List ℤ)} {x y : Bool} → Past S r x y → x ≡ true → Finished S r
past_finished (has_finished f) e = f
past_finished (contradicted p s) e = absurd (false≢true e)
past_finished (left_off w o) e = absurd (false≢true e)

finished_in : (S : Setting) (t : Standing) (c : Content) (r : List (List ℤ)) (x y : Bool) → MomentIn S t c r x y → x ≡ true → Finished S r
finished_in S idle c r x y m e = past_finished m e
finished_in S (running k w) c r x y m e = absurd (true≢false (sym e ∙ m.unfinished))
finished_in S (ended z) c r x y m e = past_finished m e

pub moment_finished : (S : Setting) (e : Meant) (r : List (List ℤ)) (y : Bool) → Moment S e r true y → Finished S r
moment_finished S e r y m = finished_in S e.standing e.sheet r true y m refl

-- ---- until then its record is that of a run that goes on
past_open : {S : Setting} {r : List (List ℤ)} {x y : Bool} → Past S r x y → x ≡ false → (w : Work) × Ongoing S r w
past_open (has_finished f) e = absurd (true≢false e)
past_open (contradicted p (stop {w = w} o s)) e = (w, o)
past_open (left_off w o) e = (w, o)

open_in : (S : Setting) (t : Standing) (c : Content) (r : List (List ℤ)) (x y : Bool) → MomentIn S t c r x y → x ≡ false → (w : Work) × Ongoing S r w
open_in S idle c r x y m e = past_open m e
open_in S (running k w) c r x y m e = (w, m.so_far)
open_in S (ended z) c r x y m e = past_open m e

pub moment_open : (S : Setting) (e : Meant) (r : List (List ℤ)) (y : Bool) → Moment S e r false y → (w : Work) × Ongoing S r w
moment_open S e r y m = open_in S e.standing e.sheet r false y m refl

-- ---- one whose advance has answered that it met a contradiction has met one
past_refuted : {S : Setting} {r : List (List ℤ)} {x y : Bool} → Past S r x y → y ≡ true → (p : ℕ) × MetStop S r (Contradiction p)
past_refuted (has_finished f) e = absurd (false≢true e)
past_refuted (contradicted p s) e = (p, s)
past_refuted (left_off w o) e = absurd (false≢true e)

refuted_in : (S : Setting) (t : Standing) (c : Content) (r : List (List ℤ)) (x y : Bool) → MomentIn S t c r x y → y ≡ true → (p : ℕ) × MetStop S r (Contradiction p)
refuted_in S idle c r x y m e = past_refuted m e
refuted_in S (running k w) c r x y m e = absurd (true≢false (sym e ∙ m.unrefuted))
refuted_in S (ended z) c r x y m e = past_refuted m e

pub moment_refuted : (S : Setting) (e : Meant) (r : List (List ℤ)) (x : Bool) → Moment S e r x true → (p : ℕ) × MetStop S r (Contradiction p)
moment_refuted S e r x m = refuted_in S e.standing e.sheet r x true m refl

-- ---- its record is the record of a run
pub moment_record : (S : Setting) (e : Meant) (r : List (List ℤ)) (x y : Bool) → Moment S e r x y → Record S r
moment_record S e r true y m = finished_record (moment_finished S e r y m)
moment_record S e r false y m = let o = moment_open S e r y m in open_record o.0 o.1
