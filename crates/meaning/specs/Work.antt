-- The work of one state, and what comes of a part of it. Assumes nothing.
use Rattle.std.specs.Prelude.{ℕ, Bool, true, false, cond, ◌&&◌, ◌||◌, List, [], ◌∷◌, ℤ, Some, None, Option, ◌==◌}
use Rattle.value.specs.declared.end.End.{End}
use Rattle.value.specs.declared.end.End.TheVariants.{Unknown, On, Last}
use Rattle.value.specs.Values.{equal_numbers}
use Rattle.meaning.specs.declared.duties.Duty.{Duty}
use Rattle.meaning.specs.declared.duties.Opening.{Opening}
use Rattle.meaning.specs.declared.duties.Span.{Span}
use Rattle.meaning.specs.declared.duties.Stop.{Stop}

-- what is at hand while a state is settled
pub record Work : Type 0 where
  -- the variables' numbers in this state, as far as they are known
  pub known : ℕ → Option ℤ
  -- what is known of the end of each span, by its serial
  pub ends : ℕ → End
  -- the spans that run, in the order of opening
  pub spans : List Span
  -- this state's duties, in the order in which they came
  pub duties : List Duty
  -- the duties carried to the next state, in the order in which they came
  pub later : List Duty
  -- the serial of the next span to be opened
  pub next : ℕ

-- what a visit or a pass comes to: a stop, or a work and whether anything in it has changed
pub data Outcome : Type 0 where
  stops : Stop → Outcome
  goes : Work → Bool → Outcome

-- nothing has changed
abbrev pub unchanged : Work → Outcome
unchanged w = goes w false

-- something has
abbrev pub changed : Work → Outcome
changed w = goes w true

-- an outcome where something has changed before if c
abbrev pub also : Bool → Outcome → Outcome
also c (stops s) = stops s
also c (goes w b) = goes w (c || b)

-- one thing, and then another with the work that it leaves; the first stop ends both
abbrev pub and_then : Outcome → (Work → Outcome) → Outcome
and_then (stops s) f = stops s
and_then (goes w c) f = also c (f w)

-- the function f, with the value a at s
abbrev pub set_at : {A : Type 0} → (ℕ → A) → ℕ → A → ℕ → A
set_at f s a t = cond (s == t) a (f t)

-- a duty without a number
abbrev pub plain : ℕ → ℕ → Duty
plain p s = record { statement = p; number = None; span = s }

-- a duty with a number
abbrev pub numbered : ℕ → ℤ → ℕ → Duty
numbered p c s = record { statement = p; number = Some c; span = s }

-- whether two duties have the same number, or both none
abbrev pub same_number : Option ℤ → Option ℤ → Bool
same_number None None = true
same_number None (Some v) = false
same_number (Some u) None = false
same_number (Some u) (Some v) = equal_numbers u v

-- whether two duties are one
abbrev pub same_duty : Duty → Duty → Bool
same_duty a b = a.statement == b.statement && (same_number a.number b.number && a.span == b.span)

-- whether a duty is in a list
abbrev pub has_duty : Duty → List Duty → Bool
has_duty d [] = false
has_duty d (x ∷ l) = same_duty d x || has_duty d l

-- whether the same is known of two ends
abbrev pub same_end : End → End → Bool
same_end Unknown Unknown = true
same_end Unknown On = false
same_end Unknown Last = false
same_end On Unknown = false
same_end On On = true
same_end On Last = false
same_end Last Unknown = false
same_end Last On = false
same_end Last Last = true

-- whether two openings are one
abbrev pub same_opening : Opening → Opening → Bool
same_opening a b = a.by == b.by && (a.body == b.body && (same_end a.starts b.starts && same_duty a.follower b.follower))

-- whether a span was opened so
abbrev pub opened_by : Opening → Option Opening → Bool
opened_by g None = false
opened_by g (Some h) = same_opening g h

-- whether one of the spans was opened so in this state
abbrev pub has_opened : Opening → List Span → Bool
has_opened g [] = false
has_opened g (t ∷ l) = (t.fresh && opened_by g t.opening) || has_opened g l
