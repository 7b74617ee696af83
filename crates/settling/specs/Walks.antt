-- Visits to the items of one list of a state's work, one after another, what they leave, and skips over items. Assumes nothing.
use Rattle.std.specs.Prelude.{◌≡◌, ℕ, zero, suc, false, List, Some, None, Option, ◌+◌, ◌<◌, ◌≤◌, slice_index}
use Rattle.std.specs.List.{slice_get}
use Rattle.meaning.specs.declared.duties.Stop.TheVariants.{Crowded}
use Rattle.meaning.specs.Intervals.{Setting}
use Rattle.meaning.specs.Work.{Work, Outcome, stops, goes, unchanged, and_then}
use Rattle.meaning.specs.WellFormed.{WellFormed, Extends}

-- a visit to an item, where there is one, and then the rest
abbrev pub visit_one : {T : Type 0} → (T → Work → Outcome) → Option T → (Work → Outcome) → Work → Outcome
visit_one v None rest w = unchanged w
visit_one v (Some t) rest w = and_then (v t w) rest

-- visits to the items from place i on, to those that are added meanwhile too; n is one more than the places that are left
abbrev pub visit_from : {T : Type 0} → (Work → List T) → (T → Work → Outcome) → ℕ → ℕ → Work → Outcome
visit_from items v zero i w = stops Crowded
visit_from items v (suc n) i w = visit_one v (slice_get (items w) i) (visit_from items v n (suc i)) w

-- at place i stands an item that is visited in vain from now on, to the end of the state
abbrev pub InVain : {T : Type 0} → (Work → List T) → (T → Work → Outcome) → Work → ℕ → Type 0
InVain {T} items v w i = (t : T) × (slice_get (items w) i ≡ Some t) × ((u : Work) → Extends w u → v t u ≡ goes u false)

-- the skip at each place i is over so many items, from i on, that are visited in vain
abbrev pub SkippedBy : {T : Type 0} → (Work → List T) → (T → Work → Outcome) → Work → List ℕ → Type 0
SkippedBy items v w skips = (i j : ℕ) → i ≤ j → j < i + slice_index skips i → InVain items v w j

-- what visits leave of the work w: a later work of the state, in order wherever w is, in these settings
pub record Leaves (within : Setting → Type 0) (w u : Work) : Type 0 where
  pub well_formed : (S : Setting) → within S → WellFormed S w → WellFormed S u
  pub later : Extends w u
