-- What is told at once of an operation, from what is told of its operands.
use Rattle.std.proofs.Common.{◌≡◌, ℕ, false, ℤ, Some, None, Ok, Err, Option, Result, refl, ap, ◌∙◌}
use Rattle.std.specs.Option.{ok_or}
use Rattle.std.specs.Result.{result_ok}
use Rattle.sheet.specs.declared.elements.Operator.{Operator}
use Rattle.sheet.specs.declared.elements.Expression.{Expression}
use Rattle.sheet.specs.declared.elements.Expression.TheVariants.{Num, Val, Pair, Not, Last}
use Rattle.value.specs.declared.end.Pending.{Pending}
use Rattle.value.specs.declared.end.Pending.TheVariants.{Unknown, More}
use Rattle.value.specs.Values.{map_known, map_both_known}
use Rattle.value.specs.Evaluating.{Agrees}
use Rattle.value.specs.AtOnce.{more, asks}

-- a number or none, told as it is
pub tells_ok_or : (o known : Option ℤ) → o ≡ known → Agrees known (ok_or o Unknown)
tells_ok_or None known e = e
tells_ok_or (Some z) known e = e

-- an operation is unknown, or asks for more, where its operand is or does
pub tells_once : (f : ℤ → ℤ) (o : Option ℤ) (why : Pending) → Agrees o (Err why) → Agrees (map_known f o) (Err why)
tells_once f o Unknown h = ap (map_known f) h
tells_once f o More h = tt

-- and where the first of two is
pub tells_first : (f : ℤ → ℤ → ℤ) (o p : Option ℤ) (why : Pending) → Agrees o (Err why) → Agrees (map_both_known f o p) (Err why)
tells_first f o p Unknown h = ap (λ (q : Option ℤ). map_both_known f q p) h
tells_first f o p More h = tt

-- or the second
pub tells_second : (f : ℤ → ℤ → ℤ) (x : ℤ) (o p : Option ℤ) (why : Pending) → Some x ≡ o → Agrees p (Err why) → Agrees (map_both_known f o p) (Err why)
tells_second f x o p Unknown e h = ap (map_both_known f (Some x)) h ∙ ap (λ (q : Option ℤ). map_both_known f q p) e
tells_second f x o p More e h = tt

-- a number or none never asks for more
pub more-ok_or : (o : Option ℤ) → more (ok_or o Unknown) ≡ false
more-ok_or None = refl
more-ok_or (Some z) = refl

-- what asks for no more is told as it is
pub result_ok-tells : (o : Option ℤ) (r : Result ℤ Pending) → Agrees o r → more r ≡ false → result_ok r ≡ o
result_ok-tells o (Ok z) h e = h
result_ok-tells o (Err Unknown) h e = h
result_ok-tells o (Err More) h e = cc

-- what is neither an operation nor `last` asks for no more
pub asks_not : (e : Expression) → ((o : Operator) (a b : ℕ) → e ≡ Pair o a b → ⊥) → ((a : ℕ) → e ≡ Not a → ⊥) → (e ≡ Last → ⊥) → asks e ≡ false
asks_not (Num c) h k l = refl
asks_not (Val x) h k l = refl
asks_not (Pair o a b) h k l = absurd (h o a b refl)
asks_not (Not a) h k l = absurd (k a refl)
asks_not Last h k l = absurd (l refl)
