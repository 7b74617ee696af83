-- What a statement asks of a piece of an interval, and when an interval satisfies a sheet. Assumes nothing.
use Rattle.std.specs.Prelude.{◌≡◌, ℕ, suc, ◌+◌, ◌-◌, ◌<◌, ◌≤◌, ◌≢◌, List, length, ℤ, pos, negsuc, Some, ◌==◌}
use Rattle.sheet.specs.declared.elements.Statement.{Statement}
use Rattle.sheet.specs.declared.elements.Statement.TheVariants.{True, Empty, More, Is, And, If, Next, Always, Halt, Len, Gets, Chop, For, While, Request}
use Rattle.value.specs.Values.{number_at}
use Rattle.meaning.specs.Intervals.{Setting, statement_at, value_in, Interval}

-- the number of expression e at state k of a piece that ends at state j, where variable x has the number σ i x at state i;
-- `last` is 1 at state j and 0 at every earlier one
abbrev pub number_on : Setting → (ℕ → ℕ → ℤ) → ℕ → ℕ → ℕ → ℤ
number_on S σ k j e = number_at S.sheet.expressions (σ k) (k == j) e

-- how many rounds a `for` makes whose count is this number
abbrev pub rounds_of : ℤ → ℕ
rounds_of (pos n) = n
rounds_of (negsuc n) = 0

mutual
  -- a statement holds on the piece from state i to state j, which is asked only where i ≤ j; there is no way in which `false` holds
  pub data Holds (S : Setting) (σ : ℕ → ℕ → ℤ) : ℕ → ℕ → Statement → Type 0 where
    -- `true` always holds
    true_holds : {i j : ℕ} → Holds S σ i j True
    -- `empty`: the piece has one state
    empty_holds : {i j : ℕ} → i ≡ j → Holds S σ i j Empty
    -- `more`: it has more than one
    more_holds : {i j : ℕ} → i < j → Holds S σ i j More
    -- `is X E`: X equals E at the first state
    is_holds : {i j x e : ℕ} → σ i x ≡ number_on S σ i j e → Holds S σ i j (Is x e)
    -- `and P Q`: both hold
    and_holds : {i j p q : ℕ} → Holds S σ i j (statement_at S p) → Holds S σ i j (statement_at S q) → Holds S σ i j (And p q)
    -- `if E P Q`: P holds where E is not 0 at the first state
    then_holds : {i j e p q : ℕ} → number_on S σ i j e ≢ pos 0 → Holds S σ i j (statement_at S p) → Holds S σ i j (If e p q)
    -- and Q holds where it is 0
    else_holds : {i j e p q : ℕ} → number_on S σ i j e ≡ pos 0 → Holds S σ i j (statement_at S q) → Holds S σ i j (If e p q)
    -- `next P`: there is a second state, and P holds from it on
    next_holds : {i j p : ℕ} → i < j → Holds S σ (suc i) j (statement_at S p) → Holds S σ i j (Next p)
    -- `always P`: P holds from every state of the piece to its end
    always_holds : {i j p : ℕ} → ((k : ℕ) → i ≤ k → k ≤ j → Holds S σ k j (statement_at S p)) → Holds S σ i j (Always p)
    -- `halt E`: E is not 0 at the last state, and is 0 at each earlier one
    halt_holds : {i j e : ℕ} → number_on S σ j j e ≢ pos 0 → ((k : ℕ) → i ≤ k → k < j → number_on S σ k j e ≡ pos 0) → Holds S σ i j (Halt e)
    -- `len E`: the piece has as many states after the first as E says there
    len_holds : {i j e n : ℕ} → number_on S σ i j e ≡ pos n → j ≡ i + n → Holds S σ i j (Len e)
    -- `gets X E`: from each state to the next, X becomes what E was
    gets_holds : {i j x e : ℕ} → ((k : ℕ) → i ≤ k → k < j → σ (suc k) x ≡ number_on S σ k j e) → Holds S σ i j (Gets x e)
    -- `chop P Q`: the piece can be cut at some state, which both parts share, so that P holds before it and Q after it
    chop_holds : {i j p q : ℕ} (k : ℕ) → i ≤ k → k ≤ j → Holds S σ i k (statement_at S p) → Holds S σ k j (statement_at S q) → Holds S σ i j (Chop p q)
    -- `for E P`: as many rounds of P as E says at the first state
    for_holds : {i j e p : ℕ} → Rounds S σ i j p (rounds_of (number_on S σ i j e)) → Holds S σ i j (For e p)
    -- `while E P`: where E is 0 at the first state, the piece has no other state
    while_stops : {i j e p : ℕ} → number_on S σ i j e ≡ pos 0 → i ≡ j → Holds S σ i j (While e p)
    -- else P holds up to some later state, and the `while` from there on
    while_goes : {i j e p : ℕ} (k : ℕ) → number_on S σ i j e ≢ pos 0 → i < k → k ≤ j → Holds S σ i k (statement_at S p) → Holds S σ k j (While e p) → Holds S σ i j (While e p)
    -- `request X`: where X has a reading at the first state, X equals it
    request_holds : {i j x : ℕ} → ((v : ℤ) → S.readings x i ≡ Some v → σ i x ≡ v) → Holds S σ i j (Request x)

  -- n rounds of statement p, one after the other, from state i to state j
  pub data Rounds (S : Setting) (σ : ℕ → ℕ → ℤ) : ℕ → ℕ → ℕ → ℕ → Type 0 where
    -- no rounds: the piece has one state
    no_round : {i j p : ℕ} → i ≡ j → Rounds S σ i j p 0
    -- one round, and the others from where it ends
    one_round : {i j p n : ℕ} (k : ℕ) → i ≤ k → k ≤ j → Holds S σ i k (statement_at S p) → Rounds S σ k j p n → Rounds S σ i j p (suc n)

-- an interval satisfies the sheet, under the readings: the statement that is run holds on the whole of it
pub record Satisfies (S : Setting) (states : List (List ℤ)) : Type 0 where
  pub interval : Interval S states
  pub holds : Holds S (value_in states) 0 (length states - 1) (statement_at S S.sheet.run)
