-- The order of visits makes no difference to an advance. Assumes nothing.
use Rattle.std.specs.Prelude.{◌≡◌, ℕ, ℤ, Option}
use Rattle.sheet.specs.Content.{Content}
use Rattle.sheet.specs.Limits.{Limits}
use Rattle.feed.specs.Readings.{SameReadings}
use Rattle.meaning.specs.declared.duties.Stop.{Stop}
use Rattle.meaning.specs.Intervals.{under}
use Rattle.meaning.specs.Work.{Work}
use Rattle.meaning.specs.Visiting.{Visiting}
use Rattle.meaning.specs.Runs.{OngoingBy}
use Rattle.meaning.specs.AnyOrder.{SameButForOrder, Broken}
use Rattle.calls.specs.declared.answers.Ending.{Ending}
use Rattle.calls.specs.declared.answers.Ending.TheVariants.{Stopped}
use Rattle.calls.specs.Standing.{Standing, running, ended, Recording}
use Rattle.calls.specs.Published.{PublishedAnswer, published_stop}
use Rattle.calls.specs.Calls.{SettledBy}

-- two answers that are the same, or of which both tell of a contradiction or of crowding, at one state
pub data SameAnswer : PublishedAnswer → PublishedAnswer → Type 0 where
  same_answer : {a : PublishedAnswer} → SameAnswer a a
  both_tell_broken : (k : ℕ) (x y : Stop) → Broken x → Broken y → SameAnswer (published_stop k x) (published_stop k y)

-- two engines that stand alike: both with a run that goes on, with works that are the same but for order; or both with a run that has ended, in the same
-- way or each with a contradiction or crowding at one state
pub data StandAlike : Standing → Standing → Type 0 where
  both_run : {k : ℕ} {w v : Work} → SameButForOrder w v → StandAlike (running k w) (running k v)
  both_ended : {e : Ending} → StandAlike (ended e) (ended e)
  both_stopped : {k : ℕ} {x y : Stop} → Broken x → Broken y → StandAlike (ended (Stopped (record { stop = x; state = k }))) (ended (Stopped (record { stop = y; state = k })))

-- two advances by as many states, of runs of equal sheets under equal readings, with equal recorders and each in an order of its own, record the same
-- and answer alike
abbrev pub AdvancesAgree : Type 0
AdvancesAgree =
    (c : Content) (f g : ℕ → ℕ → Option ℤ) → Limits c → SameReadings f g
    → (i j : Visiting) (n : ℕ) (q p r : Recording) (w v : Work) (a b : PublishedAnswer) (s t : Standing)
    → OngoingBy i (under c f) q.states w → OngoingBy j (under c g) q.states v
    → SettledBy i (under c f) n q w a s p → SettledBy j (under c g) n q v b t r
    → (p ≡ r) × SameAnswer a b × StandAlike s t
