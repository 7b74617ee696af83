-- Where a feed may have readings, and when two feeds are equal. Assumes nothing.
use Rattle.std.specs.Prelude.{◌≡◌, ℕ, Bool, false, ◌&&◌, ℤ, None, Option, nat_lt, if◌then◌else◌}

-- whether a variable is one of 0 to 15 and a state one of 0 to 65,534
abbrev pub in_domain : ℕ → ℕ → Bool
in_domain variable state = nat_lt variable 16 && nat_lt state 65535

-- a reading in the ranges, and none elsewhere
abbrev pub within_domain : ℕ → ℕ → Option ℤ → Option ℤ
within_domain variable state reading = if in_domain variable state then reading else None

-- no reading outside the ranges
abbrev pub ElsewhereNone : (ℕ → ℕ → Option ℤ) → Type 0
ElsewhereNone readings = (variable state : ℕ) → in_domain variable state ≡ false → readings variable state ≡ None

-- two feeds are equal when they read the same everywhere
abbrev pub SameReadings : (ℕ → ℕ → Option ℤ) → (ℕ → ℕ → Option ℤ) → Type 0
SameReadings f g = (variable state : ℕ) → f variable state ≡ g variable state
