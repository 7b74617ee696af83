-- Runs of an engine, and the law that each keeps. Assumes nothing.
use Rattle.std.specs.Prelude.{◌≡◌, ℕ, ◌<◌, Bool, true, false, ◌||◌, List, length, take, ℤ, Option}
use Rattle.sheet.specs.Content.{Content}
use Rattle.feed.specs.Readings.{SameReadings}
use Rattle.meaning.specs.Intervals.{under, States}
use Rattle.meaning.specs.Holds.{Satisfies}
use Rattle.calls.specs.declared.answers.Denial.{Denial}
use Rattle.calls.specs.Standing.{Recording}
use Rattle.calls.specs.Published.{PublishedAnswer, done, published_denial, says_finished, says_contradiction}
use Rattle.calls.specs.Calls.{Loads, Begins, Advances, Abandons}
use Rattle.engine.specs.declared.engine.Engine.{Engine}
use Rattle.engine.specs.Meant.{meant}

-- a run of the sheet s with one recorder and one feed, which has the readings f: the engine and the recording after one of its calls,
-- whether an advance has answered that it finished, and whether one has answered that it met a contradiction.
pub data Run (s : Content) (f : ℕ → ℕ → Option ℤ) : Engine → Recording → Bool → Bool → Type 0 where
  -- a begin that is not denied opens a run of the sheet that the engine holds
  begun : (e d : Engine) (q p : Recording) (capacity : ℕ → ℕ) → (meant e).sheet ≡ s → Begins capacity (meant e) q done (meant d) p → Run s f d p false false
  -- a begin that is denied
  begin_denied : (e d : Engine) (q p : Recording) (x y : Bool) (capacity : ℕ → ℕ) (z : Denial) → Run s f e q x y → Begins capacity (meant e) q (published_denial z) (meant d) p → Run s f d p x y
  -- a load, loaded, refused or denied
  loaded : (e d : Engine) (q : Recording) (x y : Bool) (text : List ℕ) (a : PublishedAnswer) → Run s f e q x y → Loads text (meant e) a (meant d) → Run s f d q x y
  -- an advance, whatever it answers
  advanced : (e d : Engine) (q p : Recording) (x y : Bool) (n : ℕ) (a : PublishedAnswer) → Run s f e q x y → Advances f n (meant e) q a (meant d) p → Run s f d p (x || says_finished a) (y || says_contradiction a)
  -- an abandon, whatever it answers
  abandoned : (e d : Engine) (q : Recording) (x y : Bool) (a : PublishedAnswer) → Run s f e q x y → Abandons (meant e) a (meant d) → Run s f d q x y
  -- a call that tells something and changes nothing that the engine means: a report, a look, or one that tells of sheets
  asked : (e d : Engine) (q : Recording) (x y : Bool) → Run s f e q x y → meant d ≡ meant e → Run s f d q x y

-- the law of runs, at every moment of every run
pub record LawOfRuns : Type 0 where
  -- once the run has finished, its record is an interval that satisfies its sheet, and is the only one of any length
  pub finished : (s : Content) (f : ℕ → ℕ → Option ℤ) (e : Engine) (q : Recording) (y : Bool) → Run s f e q true y
      → Satisfies (under s f) q.states × ((l : List (List ℤ)) → Satisfies (under s f) l → l ≡ q.states)
  -- until then the record consists of states of the sheet, and every interval that satisfies the sheet is longer and begins with it
  pub begins : (s : Content) (f : ℕ → ℕ → Option ℤ) (e : Engine) (q : Recording) (y : Bool) → Run s f e q false y
      → States (under s f) q.states × ((l : List (List ℤ)) → Satisfies (under s f) l → (length q.states < length l) × (take (length q.states) l ≡ q.states))
  -- after a contradiction there is none
  pub none : (s : Content) (f : ℕ → ℕ → Option ℤ) (e : Engine) (q : Recording) (x : Bool) → Run s f e q x true → (l : List (List ℤ)) → Satisfies (under s f) l → ⊥
  -- two runs of equal sheets under equal readings, of one engine or two, with any recorders, at any moments: their records are equal exactly when they have equally many states
  pub agree : (s t : Content) (f g : ℕ → ℕ → Option ℤ) (d e : Engine) (p q : Recording) (x y z w : Bool) → s ≡ t → SameReadings f g
      → Run s f d p x y → Run t g e q z w → (p.states ≡ q.states → length p.states ≡ length q.states) × (length p.states ≡ length q.states → p.states ≡ q.states)
