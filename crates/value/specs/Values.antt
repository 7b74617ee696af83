-- The numbers of a sheet's expressions, where all is known and where only some is. Assumes nothing.
use Rattle.std.specs.Prelude.{ℕ, zero, suc, Bool, true, false, not, if◌then◌else◌, ◌&&◌, ◌||◌, List, [], ℤ, pos, negsuc, ◌+ℤ◌, ◌-ℤ◌, ◌*ℤ◌, Some, None, Option, ◌==◌, int_le, int_lt, slice_index_or}
use Rattle.sheet.specs.declared.elements.Variable.{Variable}
use Rattle.sheet.specs.declared.elements.Operator.{Operator}
use Rattle.sheet.specs.declared.elements.Operator.TheVariants.{Add, Sub, Mul, Eq, Lt, Both, Either}
use Rattle.sheet.specs.declared.elements.Expression.{Expression}
use Rattle.sheet.specs.declared.elements.Expression.TheVariants.{Num, Val, Pair, Not, Last}
use Rattle.sheet.specs.Content.{variable_at}
use Rattle.sheet.specs.Sizes.{tabled}
use Rattle.value.specs.declared.end.End.{End}
use Rattle.value.specs.declared.end.End.TheVariants.{Unknown, On, Last as AtLast}

-- every number but 0 is true
abbrev pub truth : ℤ → Bool
truth (pos zero) = false
truth (pos (suc n)) = true
truth (negsuc n) = true

-- the number of a test: 1 where it holds, else 0
abbrev pub bit : Bool → ℤ
bit true = pos 1
bit false = pos 0

-- whether two numbers are equal
abbrev pub equal_numbers : ℤ → ℤ → Bool
equal_numbers (pos a) (pos b) = a == b
equal_numbers (pos a) (negsuc b) = false
equal_numbers (negsuc a) (pos b) = false
equal_numbers (negsuc a) (negsuc b) = a == b

-- what an operator makes of two numbers
abbrev pub apply : Operator → ℤ → ℤ → ℤ
apply Add x y = x +ℤ y
apply Sub x y = x -ℤ y
apply Mul x y = x *ℤ y
apply Eq x y = bit (equal_numbers x y)
apply Lt x y = bit (int_lt x y)
apply Both x y = bit (truth x && truth y)
apply Either x y = bit (truth x || truth y)

-- the number of a `not`
abbrev pub negation : ℤ → ℤ
negation x = bit (not (truth x))

-- the number of an expression, from those of the expressions before it: ρ has the variables' numbers, and last says
-- whether this state is the last of its piece; an operand that is not there counts as 0
abbrev pub expression_number : (ℕ → ℤ) → Bool → List ℤ → Expression → ℤ
expression_number ρ last before (Num c) = c
expression_number ρ last before (Val x) = ρ x
expression_number ρ last before (Pair o a b) = apply o (slice_index_or before a (pos 0)) (slice_index_or before b (pos 0))
expression_number ρ last before (Not a) = negation (slice_index_or before a (pos 0))
expression_number ρ last before Last = bit last

-- the numbers of the expressions of a sheet
abbrev pub expression_numbers : (ℕ → ℤ) → Bool → List Expression → List ℤ
expression_numbers ρ last es = tabled (expression_number ρ last) es []

-- the number of expression i
abbrev pub number_at : List Expression → (ℕ → ℤ) → Bool → ℕ → ℤ
number_at es ρ last i = slice_index_or (expression_numbers ρ last es) i (pos 0)

-- a function of a number, known where the number is
abbrev pub map_known : (ℤ → ℤ) → Option ℤ → Option ℤ
map_known f None = None
map_known f (Some x) = Some (f x)

-- a function of two numbers, known where both are
abbrev pub map_both_known : (ℤ → ℤ → ℤ) → Option ℤ → Option ℤ → Option ℤ
map_both_known f None y = None
map_both_known f (Some x) y = map_known (f x) y

-- the number of `last`, known where the end of the piece is
abbrev pub last_bit : End → Option ℤ
last_bit Unknown = None
last_bit On = Some (pos 0)
last_bit AtLast = Some (pos 1)

-- the number of an expression, as far as it is known, from those of the expressions before it: f has the variables'
-- numbers that are known, and end what is known of the piece's end
abbrev pub known : (ℕ → Option ℤ) → End → List (Option ℤ) → Expression → Option ℤ
known f end before (Num c) = Some c
known f end before (Val x) = f x
known f end before (Pair o a b) = map_both_known (apply o) (slice_index_or before a (Some (pos 0))) (slice_index_or before b (Some (pos 0)))
known f end before (Not a) = map_known negation (slice_index_or before a (Some (pos 0)))
known f end before Last = last_bit end

-- what is known of the numbers of the expressions of a sheet
abbrev pub knowns : (ℕ → Option ℤ) → End → List Expression → List (Option ℤ)
knowns f end es = tabled (known f end) es []

-- what is known of the number of expression i
abbrev pub known_at : List Expression → (ℕ → Option ℤ) → End → ℕ → Option ℤ
known_at es f end i = slice_index_or (knowns f end es) i (Some (pos 0))

-- whether a number lies in a variable's range
abbrev pub in_range : Variable → ℤ → Bool
in_range v z = int_le v.low z && int_le z v.high

-- a number outside its variable's range is no value of that variable
abbrev pub within_range : Variable → Option ℤ → Option ℤ
within_range v None = None
within_range v (Some z) = if in_range v z then Some z else None

-- the number of variable x that a list of values gives: the value at x, if there is one and it lies in x's range
abbrev pub valued : List Variable → List (Option ℤ) → ℕ → Option ℤ
valued vs values x = within_range (variable_at vs x) (slice_index_or values x None)
