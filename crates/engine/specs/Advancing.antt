-- One state of an advance, and what an advance leaves to the owner of its recorder. Assumes nothing.
use Rattle.std.specs.Prelude.{◌≡◌, ℕ, suc, ◌<◌, ◌≤◌, true, false, [], ◌∷◌, length, ℤ, Ok, Err, Result, Bool}
use Rattle.record.specs.Owned.{LeavesOwner}
use Rattle.meaning.specs.Intervals.{Setting}
use Rattle.meaning.specs.Work.{Work}
use Rattle.calls.specs.declared.answers.NotAdvanced.{NotAdvanced}
use Rattle.calls.specs.Standing.{Standing, running, Recording}
use Rattle.calls.specs.Published.{PublishedAnswer, published, to_advance, is_finished, count}
use Rattle.calls.specs.Calls.{Settled}

-- one state more, from the work w and the recorder q of an open run, by the answer whether it is the last: how the engine stands then, and the recorder
abbrev pub OneMore : Setting → Recording → Work → Result Bool NotAdvanced → Standing → Recording → Type 0
OneMore S q w (Ok true) s p = (n : ℕ) → Settled S (suc n) q w (is_finished (count (length p.states) ∷ [])) s p
OneMore S q w (Ok false) s p = (u : Work) → s ≡ running (length p.states) u → (n : ℕ) (a : PublishedAnswer) (t : Standing) (r : Recording) → Settled S n p u a t r → Settled S (suc n) q w a t r
OneMore S q w (Err x) s p = (n : ℕ) → Settled S (suc n) q w (published (to_advance (Err x))) s p

-- lent memory is only written on, from where the record ended
pub record WritesOn {R : Type 0} (capacity : R → ℕ → ℕ) (memory_name written_length : R → ℕ) (memory_at : R → ℕ → ℤ) (before after : R) : Type 0 where
  pub owner : LeavesOwner capacity memory_name written_length memory_at before after
  pub further : written_length before ≤ written_length after
  pub kept : (k : ℕ) → k < written_length before → memory_at after k ≡ memory_at before k
