-- In which order the work of a state is visited: in passes, as an engine visits it, or in any order at all. Assumes nothing.
use Rattle.std.specs.Prelude.{◌≡◌, ℕ, Bool, false}
use Rattle.meaning.specs.declared.duties.Duty.{Duty}
use Rattle.meaning.specs.declared.duties.Span.{Span}
use Rattle.meaning.specs.declared.duties.Stop.{Stop}
use Rattle.meaning.specs.Intervals.{Setting}
use Rattle.meaning.specs.Work.{Work, Outcome, stops, goes, unchanged}
use Rattle.meaning.specs.Rules.{visit, visit_span}
use Rattle.meaning.specs.Passes.{pass, Settles}
use Rattle.meaning.specs.Members.{◌∈◌}

-- one visit, to any duty or span that is there, and what it comes to
pub data OneVisit (S : Setting) (k : ℕ) (w : Work) (o : Outcome) : Type 0 where
  to_duty : (d : Duty) → d ∈ w.duties → visit S k d w ≡ o → OneVisit S k w o
  to_span : (t : Span) → t ∈ w.spans → visit_span t w ≡ o → OneVisit S k w o

-- one visit after another, in any order and as often as one likes, and the work that they lead to
pub data Visits (S : Setting) (k : ℕ) (w : Work) : Work → Type 0 where
  no_visit : Visits S k w w
  one_visit_more : {u v : Work} {c : Bool} → Visits S k w u → OneVisit S k u (goes v c) → Visits S k w v

-- visits in any order, until a pass would change nothing, or a visit stops
pub data SettlesInAnyOrder (S : Setting) (k : ℕ) (w : Work) : Outcome → Type 0 where
  comes_to_rest : {u : Work} → Visits S k w u → pass S k u ≡ unchanged u → SettlesInAnyOrder S k w (goes u false)
  meets_stop : {u : Work} {s : Stop} → Visits S k w u → OneVisit S k u (stops s) → SettlesInAnyOrder S k w (stops s)

-- the two ways to visit the work of a state
pub data Visiting : Type 0 where
  in_passes : Visiting
  in_any_order : Visiting

-- state k, started with a work and visited in this way, comes to an outcome
abbrev pub SettlesBy : Visiting → Setting → ℕ → Work → Outcome → Type 0
SettlesBy in_passes S k w o = Settles S k w o
SettlesBy in_any_order S k w o = SettlesInAnyOrder S k w o
