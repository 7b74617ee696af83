-- What a call does, by what its answer is. Assumes nothing.
use Rattle.std.proofs.Common.{◌≡◌, ℕ, Bool, true, false, ◌&&◌, List, [], ◌∷◌, length, length-append, ℤ, leb, Ok, Err, Option, Result, refl, sym, ap, ◌∙◌, subst}
use Rattle.sheet.specs.Content.{Content}
use Rattle.load.specs.declared.refusals.Refusal.{Refusal}
use Rattle.meaning.specs.declared.duties.Stop.{Stop}
use Rattle.meaning.specs.declared.duties.Stop.TheVariants.{Contradiction, Undetermined, Crowded}
use Rattle.meaning.specs.Intervals.{Setting}
use Rattle.meaning.specs.Work.{Work}
use Rattle.calls.specs.declared.answers.NotAdvanced.{NotAdvanced}
use Rattle.calls.specs.declared.answers.NotAdvanced.TheVariants.{Denied, Full, Stopped}
use Rattle.calls.specs.declared.answers.Progress.{Progress}
use Rattle.calls.specs.declared.answers.Progress.TheVariants.{Open, Finished}
use Rattle.calls.specs.Standing.{Standing, Meant, Recording, blank}
use Rattle.calls.specs.Published.{PublishedAnswer, Value, done, found, is_idle, is_open, is_finished, is_abandoned, numbered, count, state, published, to_advance}
use Rattle.calls.specs.Calls.{Settled, all_asked, no_room, met_stop, last_state, one_more}
use Rattle.summary.specs.declared.closing.Closing.{Closing}
use Rattle.summary.specs.declared.closing.Closing.TheVariants.{Advanced}
use Rattle.summary.specs.Shown.{RunOrRefusal, FromTheFirstBy}
use Rattle.embed.specs.declared.answer.AnswerNumbers.{AnswerNumbers}
use Rattle.embed.specs.Answers.{Does, none, lacking, answer_of, stopped_at}

-- nothing, where there is no memory
pub lacks : {A : Type 0} (Work : AnswerNumbers → List A → Type 0) (old : List A) (a : AnswerNumbers) → a ≡ lacking → Does Work old a old
lacks Work old a e = subst (λ (b : AnswerNumbers). Does Work old b old) (sym e) none

-- the states that a value counts, and those that are told with an answer
abbrev counted : Value → ℕ
counted (count n) = n
counted (state n) = n
counted (Value.statement n) = 0
counted (Value.variable n) = 0
counted (Value.line n) = 0
counted (Value.word n) = 0

abbrev first : List Value → ℕ
first [] = 0
first (x ∷ xs) = counted x

abbrev states_told : PublishedAnswer → ℕ
states_told done = 0
states_told (found z) = 0
states_told is_idle = 0
states_told (is_open vs) = first vs
states_told (is_finished vs) = first vs
states_told is_abandoned = 0
states_told (numbered n vs) = first vs

-- a stop is answered with its state
stop_states : (k : ℕ) (s : Stop) → (stopped_at k s).states ≡ k
stop_states k (Contradiction p) = refl
stop_states k (Undetermined x) = refl
stop_states k Crowded = refl

-- as many states are answered as are told
answer_states : (a : Result Progress NotAdvanced) → (answer_of (Advanced a)).states ≡ states_told (published (to_advance a))
answer_states (Ok (Finished n)) = refl
answer_states (Ok (Open n)) = refl
answer_states (Err (Denied d)) = refl
answer_states (Err (Full k)) = refl
answer_states (Err (Stopped c)) = stop_states c.state c.stop

-- and as many are recorded
settled_states : {S : Setting} {n : ℕ} {q : Recording} {w : Work} {a : PublishedAnswer} {s : Standing} {p : Recording} → Settled S n q w a s p → states_told a ≡ length p.states
settled_states all_asked = refl
settled_states (no_room h) = refl
settled_states (met_stop h g) = refl
settled_states {q = q} (last_state {x = x} h g) = sym (length-append q.states (x ∷ []))
settled_states (one_more h g r) = settled_states r

first_states : (b : Bool) (c : Content) (f : ℕ → ℕ → Option ℤ) (n width room : ℕ) (a : PublishedAnswer) (s : Standing) (p : Recording) → FromTheFirstBy b c f n (blank width room) a s p → states_told a ≡ length p.states
first_states true c f n width room a s p h = settled_states h
first_states false c f n width room a s p h = ap states_told h.0 ∙ sym (ap (λ (q : Recording). length q.states) h.2)

-- so the states of an answer are those of the record
pub recorded_states : (v : Result Content Refusal) (f : ℕ → ℕ → Option ℤ) (n : ℕ) (capacity : ℕ → ℕ) (width room : ℕ) (x : Closing) (p : Recording) (e d : Meant)
    → RunOrRefusal v f n capacity (blank width room) x p e d → (answer_of x).states ≡ length p.states
recorded_states (Ok c) f n capacity width room x p e d h =
    ap (λ (y : Closing). (answer_of y).states) h.1 ∙ answer_states h.0 ∙ first_states (leb 1 n && leb n 1000) c f n _ _ (published (to_advance h.0)) d.standing p h.2.settled
recorded_states (Err r) f n capacity width room x p e d h = ap (λ (y : Closing). (answer_of y).states) h.1 ∙ sym (ap (λ (q : Recording). length q.states) h.3)
