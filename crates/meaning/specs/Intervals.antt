-- Intervals: lists of states, as recorders mean them. Assumes nothing.
use Rattle.std.specs.Prelude.{◌≡◌, ℕ, ◌<◌, Bool, true, List, [], length, ℤ, pos, Option, slice_index_or}
use Rattle.sheet.specs.declared.elements.Statement.{Statement}
use Rattle.sheet.specs.declared.elements.Statement.TheVariants.{True}
use Rattle.sheet.specs.Content.{Content, variable_at}
use Rattle.value.specs.Values.{in_range}

-- a sheet, and the readings that it is run with: for a variable, and then a state, a number or none;
-- a feed has readings for some variables and states only, and the laws hold for any
pub record Setting : Type 0 where
  pub sheet : Content
  pub readings : ℕ → ℕ → Option ℤ

-- a sheet under readings
abbrev pub under : Content → (ℕ → ℕ → Option ℤ) → Setting
under c f = record { sheet = c; readings = f }

-- how many variables the sheet has
abbrev pub width : Setting → ℕ
width S = length S.sheet.variables

-- the statement with number p
abbrev pub statement_at : Setting → ℕ → Statement
statement_at S p = slice_index_or S.sheet.statements p True

-- whether z lies in the range of variable x
abbrev pub value_fits : Setting → ℕ → ℤ → Bool
value_fits S x z = in_range (variable_at S.sheet.variables x) z

-- the number of variable x at state k of a list of states
abbrev pub value_in : List (List ℤ) → ℕ → ℕ → ℤ
value_in states k x = slice_index_or (slice_index_or states k []) x (pos 0)

-- each state gives every variable of the sheet a number in its range, and nothing else
pub record States (S : Setting) (states : List (List ℤ)) : Type 0 where
  pub wide : (k : ℕ) → k < length states → length (slice_index_or states k []) ≡ width S
  pub ranged : (k : ℕ) → k < length states → (x : ℕ) → x < width S → value_fits S x (value_in states k x) ≡ true

-- an interval has at least one state, and any finite number of them
pub record Interval (S : Setting) (states : List (List ℤ)) : Type 0 where
  pub some_state : 0 < length states
  pub each : States S states
