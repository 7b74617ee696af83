-- What a total order is, and what a search in a list finds. Assumes nothing.
use Rattle.std.specs.Prelude.{◌≡◌, ℕ, ◌<◌, ◌⊎◌, List, length, Some, None, Option, slice_index_or}
use Rattle.std.specs.declared.cmp.Ordering.{Ordering}
use Rattle.std.specs.declared.cmp.Ordering.TheVariants.{Less, Equal}

-- a comparison puts the first item ahead of the second
abbrev pub below_by : {X : Type 0} → (X → X → Ordering) → X → X → Type 0
below_by c x y = c x y ≡ Less

-- a comparison does not tell the two items apart
abbrev pub same_by : {X : Type 0} → (X → X → Ordering) → X → X → Type 0
same_by c x y = c x y ≡ Equal

-- the two relations make up a total order
pub record TotalOrder {X : Type 0} (below same : X → X → Type 0) : Type 0 where
  -- of two items one is below, the same as, or above the other
  pub one : (x y : X) → below x y ⊎ (same x y ⊎ below y x)
  -- an item is not below one that is the same
  pub apart : (x y : X) → below x y → same x y → ⊥
  -- no two items are below each other
  pub against : (x y : X) → below x y → below y x → ⊥
  -- below is carried along a chain
  pub chain : (x y z : X) → below x y → below y z → below x z
  -- every item is the same as itself
  pub itself : (x : X) → same x x
  -- same goes both ways
  pub turned : (x y : X) → same x y → same y x
  -- same is carried along a chain
  pub carried : (x y z : X) → same x y → same y z → same x z
  -- what is the same as an item is below what that item is below
  pub lower : (x y z : X) → same x y → below y z → below x z
  -- an item is below what is the same as one that it is below
  pub higher : (x y z : X) → below x y → same y z → below x z

-- what a search for the first item that is the same as x finds in xs
abbrev pub FirstPlace : {X : Type 0} → (X → X → Type 0) → List X → X → Option ℕ → Type 0
-- no item is the same as x
FirstPlace same xs x None = (k : ℕ) → k < length xs → same x (slice_index_or xs k x) → ⊥
-- the item at i is the same as x, and none ahead of it is
FirstPlace same xs x (Some i) = (i < length xs) × same x (slice_index_or xs i x) × ((k : ℕ) → k < i → same x (slice_index_or xs k x) → ⊥)
