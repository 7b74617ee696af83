-- What a visit to a duty asks of the work before it, what a statement's rule makes of that work, and for what it waits there. Assumes nothing.
use Rattle.std.specs.Prelude.{ℕ, Bool, ℤ, Option, Ok, Err, Result}
use Rattle.sheet.specs.declared.kept.Sheet.{Sheet}
use Rattle.sheet.specs.declared.elements.Statement.{Statement}
use Rattle.meaning.specs.declared.duties.Stop.{Stop}
use Rattle.meaning.specs.Intervals.{under}
use Rattle.meaning.specs.WellFormed.{Present, FitSays}
use Rattle.meaning.specs.Rules.{rule}
use Rattle.meaning.specs.Waiting.{rule_waits}
use Rattle.meaning.specs.Work.{Work, Outcome}
use Rattle.rules.specs.declared.visit.Visit.{Visit}
use Rattle.rules.specs.declared.visit.Visited.{Visited}
use Rattle.sheet.specs.ContentOf.{content_of}

-- every number that is known lies in its range, whatever is read
abbrev pub Fitted : Sheet → Work → Type 0
Fitted s w = (f : ℕ → ℕ → Option ℤ) (y : ℕ) → FitSays (under (content_of s) f) y (w.known y)

-- what the visit asks of the work w: the duty's span runs, and every known number fits
pub record Ready {F : Type 0} (v : Visit F) (w : Work) : Type 0 where
  pub present : Present w.spans v.duty.span
  pub fitted : Fitted v.sheet.now w

-- what the rule of the statement t makes of the work w at this visit, where the feed has these readings
abbrev pub ruled : {F : Type 0} → (F → ℕ → ℕ → Option ℤ) → Visit F → Statement → Work → Outcome
ruled readings v t w = rule (under (content_of v.sheet.now) (readings v.feed.now)) v.state t v.duty.number v.duty w

-- whether this visit waits, by the rule of the statement t
abbrev pub awaits : {F : Type 0} → (F → ℕ → ℕ → Option ℤ) → Visit F → Statement → Work → Bool
awaits readings v t w = rule_waits (under (content_of v.sheet.now) (readings v.feed.now)) t v.duty.number v.duty w

-- the answer of a visit, as an answer whether anything has changed
abbrev pub visit_changed : Result Visited Stop → Result Bool Stop
visit_changed (Ok v) = Ok v.changed
visit_changed (Err s) = Err s
