-- What evaluation promises. Assumes nothing.
use Rattle.std.specs.Prelude.{◌≡◌, ℕ, ◌<◌, ◌≤◌, Bool, true, false, List, length, ℤ, Some, None, Ok, Err, vec_items, Option, Result, unsigned_abs}
use Rattle.sheet.specs.declared.kept.Sheet.{Sheet}
use Rattle.value.specs.declared.end.End.{End}
use Rattle.value.specs.declared.end.End.TheVariants.{On, Last}
use Rattle.value.specs.declared.end.Pending.{Pending}
use Rattle.value.specs.declared.end.Pending.TheVariants.{Unknown, More}
use Rattle.value.specs.Values.{number_at, known_at, valued}

-- what is known of the number of expression i of a sheet, where its variables have these values
abbrev pub partial_value : Sheet → List (Option ℤ) → End → ℕ → Option ℤ
partial_value s values end i = known_at (vec_items s.tables.expressions) (valued (vec_items s.tables.variables) values) end i

-- what is told at once is what is known; where more must be asked nothing is said
abbrev pub Agrees : Option ℤ → Result ℤ Pending → Type 0
Agrees known (Ok z) = Some z ≡ known
Agrees known (Err Unknown) = None ≡ known
Agrees known (Err More) = Unit {0}

-- an end that is known: the state is the last of its piece, or the piece goes on
abbrev pub decided : Bool → End
decided true = Last
decided false = On

-- where every variable of the sheet has a value in its range, and the end is known, r is the number of expression i
abbrev pub TotalWhenKnown : Sheet → List (Option ℤ) → End → ℕ → Option ℤ → Type 0
TotalWhenKnown s values end i r =
    (ρ : ℕ → ℤ) (last : Bool)
    → ((x : ℕ) → x < length (vec_items s.tables.variables) → valued (vec_items s.tables.variables) values x ≡ Some (ρ x))
    → end ≡ decided last
    → r ≡ Some (number_at (vec_items s.tables.expressions) ρ last i)

-- a number that is known is at most m away from 0
abbrev pub WithinBound : ℕ → Option ℤ → Type 0
WithinBound m None = Unit {0}
WithinBound m (Some z) = unsigned_abs z ≤ m
