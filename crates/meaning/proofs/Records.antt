-- The record of a run as a function: what is started and what has ended, from the lists of states.
use Rattle.std.proofs.Common.{◌≡◌, ℕ, suc, ◌<◌, List, [], ◌∷◌, ◌++◌, length, get_or, ℤ, pos, sym, refl, ap, ◌∙◌, subst, subst₂, arith}
use native.Mathlib.Decide.{ℕ_discrete}
use lib.ListN.{get_or-append}
use Rattle.value.proofs.Numbers.{MatchesNumber}
use Rattle.meaning.specs.Intervals.{Setting, width, value_in}
use Rattle.meaning.specs.Work.{Work}
use Rattle.meaning.specs.Visiting.{in_any_order}
use Rattle.meaning.specs.Runs.{state_of, Step, recorded, finished, OngoingBy, start, onward, FinishedBy, finish}
use Rattle.meaning.proofs.Lists.{longer}
use Rattle.meaning.proofs.RunsInSomeOrder.{Rows, RunBegins, at_first, one_on, Ends, begins_as}
use Rattle.meaning.proofs.SettledStates.{Steady, steady, state_values, state_wide}

get_d_end : {A : Type 0} (l : List A) (a d : A) → get_or (l ++ (a ∷ [])) (length l) d ≡ a
get_d_end [] a d = refl
get_d_end (x ∷ l) a d = get_d_end l a d

-- a run that goes on, with its record as a function
pub record Started (S : Setting) (r : List (List ℤ)) (w : Work) : Type 0 where
  pub wide : (i : ℕ) → i < length r → length (get_or r i []) ≡ width S
  pub begun : RunBegins S (value_in r) (length r) w

-- a run that has finished, with its record as a function
pub record CompleteRun (S : Setting) (r : List (List ℤ)) : Type 0 where
  pub wide : (i : ℕ) → i < length r → length (get_or r i []) ≡ width S
  pub count : ℕ
  pub counted : length r ≡ suc count
  pub work : Work
  pub settled : Work
  pub ends : Ends S (value_in r) count work settled

-- one state more
module _ (S : Setting) (r : List (List ℤ)) (w : Work) (s : Step) (B : Started S r w) (T : Steady in_any_order S (length r) w s) (x : List ℤ) (same-state : state_of (width S) T.work ≡ x) where
  abbrev more : List (List ℤ)
  more = r ++ (x ∷ [])

  more_wide : (i : ℕ) → i < length more → length (get_or more i []) ≡ width S
  more_wide i h = by (ℕ_discrete i (length r))
    where
      by : Dec (i ≡ length r) → length (get_or more i []) ≡ width S
      by (yes e) = ap (λ z. length (get_or more z [])) e ∙ ap length (get_d_end r x []) ∙ ap length (sym same-state) ∙ state_wide (width S) T.work
      by (no e) = let l : i < length r = omega (arith, longer r x) in ap length (get_or-append r (x ∷ []) [] i l) ∙ B.wide i l

  before : RunBegins S (value_in more) (length r) w
  before = begins_as (λ i h y. ap (λ z. get_or z y (pos 0)) (sym (get_or-append r (x ∷ []) [] i h))) B.begun

  this : Rows S (value_in more) (length r) w T.work
  this = record {
    settled = T.settled;
    complete = T.complete;
    values = λ y l. subst (λ z. MatchesNumber (T.work.known y) (get_or z y (pos 0))) (same-state ∙ sym (get_d_end r x [])) (state_values (width S) T.work T.complete y l);
  }

pub started : {S : Setting} {r : List (List ℤ)} {w : Work} → OngoingBy in_any_order S r w → Started S r w
started start = record { wide = λ i h. absurd (omega arith); begun = at_first }
started {S} (onward {r = r} {w = w} {u = u} {x = x} o q) =
    let T : Steady in_any_order S (length r) w (recorded x u) = steady in_any_order S (length r) w (recorded x u) q (λ h. h) in
    let B : Started S r w = started o in
    record {
      wide = more_wide S r w (recorded x u) B T x T.state;
      begun =
          subst₂ (λ k v. RunBegins S (value_in (r ++ (x ∷ []))) k v) (sym (longer r x)) T.after
          (one_on (before S r w (recorded x u) B T x T.state) (this S r w (recorded x u) B T x T.state) T.over);
    }

pub completed : {S : Setting} {r : List (List ℤ)} → FinishedBy in_any_order S r → CompleteRun S r
completed {S} (finish {r = r} {w = w} {x = x} o q) =
    let T : Steady in_any_order S (length r) w (finished x) = steady in_any_order S (length r) w (finished x) q (λ h. h) in
    let B : Started S r w = started o in
    record {
      wide = more_wide S r w (finished x) B T x T.state;
      count = length r;
      counted = longer r x;
      work = w;
      settled = T.work;
      ends = record { begun = before S r w (finished x) B T x T.state; row = this S r w (finished x) B T x T.state; over = T.over };
    }
