-- A run whose states are settled in passes, or in any order, is one whose states are settled in some order; and what its states start with.
use Rattle.std.proofs.Common.{ℕ, List, length, ℤ, subst}
use Rattle.sheet.specs.Limits.{Limits}
use Rattle.meaning.specs.declared.duties.Stop.{Stop}
use Rattle.meaning.specs.Intervals.{Setting}
use Rattle.meaning.specs.Work.{Work, Outcome}
use Rattle.meaning.specs.Passes.{Settles}
use Rattle.meaning.specs.Visiting.{Visits, SettlesInAnyOrder, Visiting, in_passes, in_any_order, SettlesBy}
use Rattle.meaning.specs.Runs.{Step, recorded, StepsBy, OngoingBy, start, onward, FinishedBy, finish, MetStopBy, stop}
use Rattle.meaning.proofs.StaysWellFormed.{settles_total}
use Rattle.meaning.proofs.VisitsKeep.{kept_visits}
use Rattle.meaning.proofs.Fuel.{roomy_kept}
use Rattle.meaning.proofs.SettledStates.{Steady, steady}
use Rattle.meaning.proofs.AnyVisits.{visits_move, passes_any_order}
use Rattle.meaning.proofs.Starts.{Start, settled_from, first_start, next_start}

module _ {S : Setting} (L : Limits S.sheet) where
  pub start_of : {r : List (List ℤ)} {w : Work} → OngoingBy in_any_order S r w → Start S w
  start_of start = first_start S.sheet.run
  start_of (onward {r = r} {w = w} {u = u} {x = x} o q) =
      let T : Steady in_any_order S (length r) w (recorded x u) = steady in_any_order S (length r) w (recorded x u) q (λ h. h) in
      subst (λ z. Start S z) T.after (next_start (settled_from L (start_of o) T.settled))

  pub settles_any : (i : Visiting) {k : ℕ} {w : Work} {o : Outcome} → Start S w → SettlesBy i S k w o → SettlesInAnyOrder S k w o
  settles_any in_passes A s = passes_any_order S L A.well_formed A.roomy s
  settles_any in_any_order A s = s

  pub steps_any : (i : Visiting) {k : ℕ} {w : Work} {s : Step} → Start S w → StepsBy i S k w s → StepsBy in_any_order S k w s
  steps_any i A s = record { outcome = s.outcome; settles = settles_any i A s.settles; comes = s.comes }

  pub open_any : (i : Visiting) {r : List (List ℤ)} {w : Work} → OngoingBy i S r w → OngoingBy in_any_order S r w
  open_any i start = start
  open_any i (onward o s) = let a = open_any i o in onward a (steps_any i (start_of a) s)

  pub finished_any : (i : Visiting) {r : List (List ℤ)} → FinishedBy i S r → FinishedBy in_any_order S r
  finished_any i (finish o s) = let a = open_any i o in finish a (steps_any i (start_of a) s)

  pub stopped_any : (i : Visiting) {r : List (List ℤ)} {p : Stop} → MetStopBy i S r p → MetStopBy in_any_order S r p
  stopped_any i (stop o s) = let a = open_any i o in stop a (steps_any i (start_of a) s)

  -- after any visits, others bring the state to an outcome
  pub comes_to_an_end : {r : List (List ℤ)} {w u : Work} {k : ℕ} → OngoingBy in_any_order S r w → Visits S k w u → (o : Outcome) × SettlesInAnyOrder S k u o
  comes_to_an_end {u = u} {k = k} o a =
      let A : Start S _ = start_of o in
      let t = (visits_move S L A.well_formed a).1 in
      let s : (p : Outcome) × Settles S k u p = settles_total S L k u t in
      (s.0, passes_any_order S L t (kept_visits S _ (roomy_kept S) a A.roomy) s.1)
