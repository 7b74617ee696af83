-- A pass over the work of a state, and passes until one changes nothing. Assumes nothing.
use Rattle.std.specs.Prelude.{◌≡◌, ℕ, zero, suc, true, false, List, [], ◌∷◌, Some, None, Option}
use Rattle.std.specs.List.{slice_get}
use Rattle.meaning.specs.declared.duties.Duty.{Duty}
use Rattle.meaning.specs.declared.duties.Span.{Span}
use Rattle.meaning.specs.declared.duties.Stop.{Stop}
use Rattle.meaning.specs.declared.duties.Stop.TheVariants.{Crowded}
use Rattle.meaning.specs.Intervals.{Setting}
use Rattle.meaning.specs.Work.{Work, Outcome, stops, goes, unchanged, and_then}
use Rattle.meaning.specs.Effects.{most_duties}
use Rattle.meaning.specs.Rules.{visit, visit_span}

-- a visit to a duty, if there is one, and then the others
abbrev pub visit_or : Setting → ℕ → Option Duty → (Work → Outcome) → Work → Outcome
visit_or S k None rest w = unchanged w
visit_or S k (Some d) rest w = and_then (visit S k d w) rest

-- visits to the duties from place i on, to those that are added meanwhile too; where the fuel runs out, which it never does, it would be crowded
abbrev pub visit_duties : Setting → ℕ → ℕ → ℕ → Work → Outcome
visit_duties S k zero i w = stops Crowded
visit_duties S k (suc fuel) i w = visit_or S k (slice_get w.duties i) (visit_duties S k fuel (suc i)) w

-- the same visits, with this outcome where the fuel runs out
abbrev pub visit_duties_else : Outcome → Setting → ℕ → ℕ → ℕ → Work → Outcome
visit_duties_else o S k zero i w = o
visit_duties_else o S k (suc fuel) i w = visit_or S k (slice_get w.duties i) (visit_duties_else o S k fuel (suc i)) w

-- visits to spans
abbrev pub visit_spans : List Span → Work → Outcome
visit_spans [] w = unchanged w
visit_spans (t ∷ l) w = and_then (visit_span t w) (visit_spans l)

-- the fuel of a pass: a visit for each duty of a full list, and one that finds no more; it never runs out (`FuelSuffices`)
unfoldable pub pass_fuel : ℕ
pass_fuel = suc most_duties

-- a pass at state k: the duties from first to last, and then the spans in the order of opening
abbrev pub pass : Setting → ℕ → Work → Outcome
pass S k w = and_then (visit_duties S k pass_fuel 0 w) (λ u. visit_spans u.spans u)

-- passes repeat until one changes nothing, or one stops
pub data Settles (S : Setting) (k : ℕ) : Work → Outcome → Type 0 where
  -- this pass changes nothing
  rests : {w u : Work} → pass S k w ≡ goes u false → Settles S k w (goes u false)
  -- this pass stops
  breaks : {w : Work} {s : Stop} → pass S k w ≡ stops s → Settles S k w (stops s)
  -- this pass changes something, and others follow
  again : {w u : Work} {o : Outcome} → pass S k w ≡ goes u true → Settles S k u o → Settles S k w o
