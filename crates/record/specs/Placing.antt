-- What it is to write a part of a text to its place. Assumes nothing.
use Rattle.std.specs.Prelude.{◌≡◌, ℕ, ◌+◌, List, ◌++◌, length, take, drop}

-- a part is written from place p on, and ends ahead of place q; no other byte changes
pub record Placed (part : List ℕ) (p : ℕ) (old : List ℕ) (q : ℕ) (new : List ℕ) : Type 0 where
  -- where it ends
  pub end : q ≡ p + length part
  -- it stands behind what was ahead of its place
  pub front : take q new ≡ take p old ++ part
  -- what is behind it stays
  pub rest : drop q new ≡ drop q old
