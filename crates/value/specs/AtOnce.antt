-- What evaluation tells at once. Only contracts of private functions cite it. Assumes nothing.
use Rattle.std.specs.Prelude.{ℕ, Bool, true, false, ℤ, Ok, Err, Option, Result}
use Rattle.sheet.specs.declared.elements.Expression.{Expression}
use Rattle.sheet.specs.declared.elements.Expression.TheVariants.{Num, Val, Pair, Not, Last}
use Rattle.value.specs.declared.end.Pending.{Pending}
use Rattle.value.specs.declared.end.Pending.TheVariants.{Unknown, More}
use Rattle.value.specs.declared.context.EvaluationContext.{EvaluationContext}
use Rattle.value.specs.Evaluating.{partial_value}

-- what is known of the number of expression i
abbrev pub partial_value_in : EvaluationContext → ℕ → Option ℤ
partial_value_in s i = partial_value s.known.sheet.now s.known.values.now s.end i

-- whether it was told that more must be asked
abbrev pub more : Result ℤ Pending → Bool
more (Ok z) = false
more (Err Unknown) = false
more (Err More) = true

-- whether an expression asks for more: it has operands, or it is `last`
abbrev pub asks : Expression → Bool
asks (Num c) = false
asks (Val x) = false
asks (Pair o a b) = true
asks (Not a) = true
asks Last = true
