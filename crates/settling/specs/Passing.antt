-- The setting of a pass, and what settling answers. Assumes nothing.
use Rattle.std.specs.Prelude.{ℕ, ℤ, false, Option, Ok, Err, Result}
use Rattle.meaning.specs.declared.duties.Stop.{Stop}
use Rattle.meaning.specs.Intervals.{Setting, under}
use Rattle.meaning.specs.Work.{Work, Outcome, stops, goes}
use Rattle.settling.specs.declared.pass.Pass.{Pass}
use Rattle.sheet.specs.ContentOf.{content_of}

-- the setting of a pass, where its feed has these readings
abbrev pub setting_of : {F : Type 0} → (F → ℕ → ℕ → Option ℤ) → Pass F → Setting
setting_of readings p = under (content_of p.sheet.now) (readings p.feed.now)

-- the outcome that an answer of settling tells, with the work that is left
abbrev pub rested : {U : Type 0} → Result U Stop → Work → Outcome
rested (Ok x) u = goes u false
rested (Err s) u = stops s
