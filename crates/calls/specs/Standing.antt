-- What an engine and a recorder mean. Assumes nothing.
use Rattle.std.specs.Prelude.{ℕ, ◌-◌, List, [], ◌∷◌, ◌++◌, ℤ}
use Rattle.sheet.specs.Content.{Content}
use Rattle.meaning.specs.Work.{Work}
use Rattle.calls.specs.declared.answers.Ending.{Ending}

-- how an engine stands
pub data Standing : Type 0 where
  -- no run was begun since its sheet was loaded
  idle : Standing
  -- a run goes on: so many states were recorded, and the next one starts with this work
  running : ℕ → Work → Standing
  -- the last run has ended
  ended : Ending → Standing

-- what an engine means: the sheet that it holds, and how it stands
pub record Meant : Type 0 where
  pub sheet : Content
  pub standing : Standing

-- an engine with the same sheet that stands so
abbrev pub with_standing : Standing → Meant → Meant
with_standing s e = record { sheet = e.sheet; standing = s }

-- what an engine counts on of a recorder: its states in a list, its width and its room
pub record Recording : Type 0 where
  pub states : List (List ℤ)
  pub width : ℕ
  pub room : ℕ

-- what a recorder of a kind means, by what its kind says of it
abbrev pub recording : {R : Type 0} → (R → List (List ℤ)) → (R → ℕ) → (R → ℕ) → R → Recording
recording states state_width room_left r = record { states = states r; width = state_width r; room = room_left r }

-- a recording without states, of this width and room
abbrev pub blank : ℕ → ℕ → Recording
blank n room = record { states = []; width = n; room = room }

-- a recording with one state more
abbrev pub with_state : List ℤ → Recording → Recording
with_state x q = record { states = q.states ++ x ∷ []; width = q.width; room = q.room - 1 }
