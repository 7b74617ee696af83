-- Skips over duties and spans whose visits can have no further effect in this state. Assumes nothing.
use Rattle.std.specs.Prelude.{ℕ, List}
use Rattle.meaning.specs.Intervals.{Setting}
use Rattle.meaning.specs.Work.{Work}
use Rattle.meaning.specs.Rules.{visit, visit_span}
use Rattle.settling.specs.Walks.{SkippedBy}

-- each skip leads over duties that are visited in vain from now on, to the end of state k
abbrev pub Skipped : Setting → ℕ → Work → List ℕ → Type 0
Skipped S k w skips = SkippedBy (λ v. v.duties) (visit S k) w skips

-- each skip leads over spans that are visited in vain from now on, to the end of the state
abbrev pub SkippedSpans : Work → List ℕ → Type 0
SkippedSpans w skips = SkippedBy (λ v. v.spans) visit_span w skips
