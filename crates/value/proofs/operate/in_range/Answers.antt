-- A number is in a range where both comparisons say so.
use Rattle.std.proofs.Common.{◌≡◌, Bool, ◌&&◌, sym, ap, ◌∙◌, w64, to_z, of_z, refl, arith}
use lib.Signed.{le_z}
use Rattle.std.proofs.lemmas.Int.{ints}
use Rattle.value.proofs.operate.in_range.Goals as goal

pub returns-else-from-number : goal.returns-else-from-number
returns-else-from-number c =
    let v = c.args.variable in
    let z = c.args.number in
    let low : to_z w64 (of_z w64 c.from.result) ≡ v.low = omega (arith, ints, c.from.ensures) in
    let number : to_z w64 (of_z w64 z) ≡ z = omega (arith, ints) in
    let same : le_z (to_z w64 (of_z w64 c.from.result)) (to_z w64 (of_z w64 z)) ≡ le_z v.low z = rw (low, number) refl in
    c.if-from-number.false ∙ ap (λ (b : Bool). b && le_z z v.high) (sym c.if-from-number.false ∙ same)

pub returns-then-from-number : goal.returns-then-from-number
returns-then-from-number c =
    let v = c.args.variable in
    let z = c.args.number in
    let low : to_z w64 (of_z w64 c.from.result) ≡ v.low = omega (arith, ints, c.from.ensures) in
    let high : to_z w64 (of_z w64 c.from-then-from-number.result) ≡ v.high = omega (arith, ints, c.from-then-from-number.ensures) in
    let number : to_z w64 (of_z w64 z) ≡ z = omega (arith, ints) in
    let above : le_z (to_z w64 (of_z w64 c.from.result)) (to_z w64 (of_z w64 z)) ≡ le_z v.low z = rw (low, number) refl in
    let below : le_z (to_z w64 (of_z w64 z)) (to_z w64 (of_z w64 c.from-then-from-number.result)) ≡ le_z z v.high = rw (number, high) refl in
    below ∙ ap (λ (b : Bool). b && le_z z v.high) (sym c.if-from-number.true ∙ above)
