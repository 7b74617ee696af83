-- What a call leaves to the owner of a recorder. Assumes nothing.
use Rattle.std.specs.Prelude.{◌≡◌, ℕ, ◌≤◌, ℤ}

-- the capacities stay, the lent memory stays the same one, and no place of it beyond the reach is written
pub record LeavesOwner {R : Type 0} (capacity : R → ℕ → ℕ) (memory_name written_length : R → ℕ) (memory_at : R → ℕ → ℤ) (before after : R) : Type 0 where
  -- the room that a start gives for a width
  pub fixed : (width : ℕ) → capacity after width ≡ capacity before width
  -- which memory was lent
  pub held : memory_name after ≡ memory_name before
  -- what the places beyond the reach hold
  pub untouched : (k : ℕ) → written_length after ≤ k → memory_at after k ≡ memory_at before k
