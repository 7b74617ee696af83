-- How far from 0 numbers are, and which fit 64 bits.
use Rattle.std.proofs.Common.{◌≡◌, ℕ, zero, suc, ◌+◌, ◌*◌, ◌≤◌, Bool, true, false, ℤ, pos, negsuc, ◌+ℤ◌, ◌-ℤ◌, ◌*ℤ◌, neg_ℤ, nat_abs, refl, ap, ◌∙◌, mul-le-mul, arith, w64, SFits}
use lib.IntN.{pos-*ℤ-pos, pos-*ℤ-negsuc, negsuc-*ℤ-pos, negsuc-*ℤ-negsuc}
use Rattle.std.proofs.lemmas.Int.{ints}
use Rattle.sheet.specs.declared.elements.Operator.{Operator}
use Rattle.sheet.specs.declared.elements.Operator.TheVariants.{Add, Sub, Mul, Eq, Lt, Both, Either}
use Rattle.sheet.specs.Sizes.{size_of}
use Rattle.value.specs.Values.{bit, apply}

-- a negative number is as far from 0 as its opposite
abs_negative : (n : ℕ) → nat_abs (neg_ℤ (pos n)) ≡ n
abs_negative zero = refl
abs_negative (suc n) = refl

-- a product is as far from 0 as the product of the distances
pub abs_product : (x y : ℤ) → nat_abs (x *ℤ y) ≡ nat_abs x * nat_abs y
abs_product (pos a) (pos b) = ap nat_abs (pos-*ℤ-pos a b)
abs_product (pos a) (negsuc b) = ap nat_abs (pos-*ℤ-negsuc a b) ∙ abs_negative (a * suc b)
abs_product (negsuc a) (pos b) = ap nat_abs (negsuc-*ℤ-pos a b) ∙ abs_negative (suc a * b)
abs_product (negsuc a) (negsuc b) = ap nat_abs (negsuc-*ℤ-negsuc a b)

-- a test's number is 0 or 1
pub bit_small : (b : Bool) → nat_abs (bit b) ≤ 1
bit_small true = omega arith
bit_small false = omega arith

-- a pair is no further from 0 than its size, if its operands are not
pub apply_small : (o : Operator) (x y : ℤ) (m n : ℕ) → nat_abs x ≤ m → nat_abs y ≤ n → nat_abs (apply o x y) ≤ size_of o m n
apply_small Add x y m n p q = let h : nat_abs (x +ℤ y) ≤ nat_abs x + nat_abs y = grind (arith, ints) in omega arith
apply_small Sub x y m n p q = let h : nat_abs (x -ℤ y) ≤ nat_abs x + nat_abs y = grind (arith, ints) in omega arith
apply_small Mul x y m n p q = rw abs_product (mul-le-mul p q)
apply_small Eq x y m n p q = bit_small _
apply_small Lt x y m n p q = bit_small _
apply_small Both x y m n p q = bit_small _
apply_small Either x y m n p q = bit_small _

-- what is at most 10¹⁸ away from 0 fits
pub abs_fits : (x : ℤ) → nat_abs x ≤ 1000000000000000000 → SFits w64 x
abs_fits (pos n) h = record { sfits = omega arith }
abs_fits (negsuc n) h = record { sfits = omega arith }

-- so does the product of two numbers that are at most 10⁹ away
pub product_fits : (x y : ℤ) → nat_abs x ≤ 1000000000 → nat_abs y ≤ 1000000000 → SFits w64 (x *ℤ y)
product_fits x y p q = abs_fits (x *ℤ y) (rw abs_product (mul-le-mul p q))
