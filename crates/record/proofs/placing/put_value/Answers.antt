-- The line's parts stand one behind the other.
use Rattle.std.proofs.Common.{[], ◌∷◌, ◌++◌, ap, ◌∙◌, codes, decimal, w64}
use Rattle.std.specs.Fmt.{signed_decimal}
use Rattle.std.proofs.lemmas.Int.{to_z-of_z}
use Rattle.record.proofs.PlacedParts.{placed_then, placed_as}
use Rattle.record.proofs.placing.put_value.Goals as goal

pub returns : goal.returns
returns c =
    let name = codes "v" ++ decimal c.args.variable in
    let left = name ++ codes "=" in
    let variable = placed_as _ (decimal c.args.variable) _ _ _ _ (c.as_bytes.ensures.value ∙ c.format.ensures.text) c.put_bytes-at-2.ensures in
    let value = placed_as _ (signed_decimal c.args.value) _ _ _ _ (c.as_bytes-2.ensures.value ∙ c.format-2.ensures.text ∙ ap signed_decimal (to_z-of_z w64 c.args.value c.ranges.value)) c.put_bytes-at-4.ensures in
    let named = placed_then (codes "v") (decimal c.args.variable) _ _ _ _ _ _ c.put_bytes-at.ensures variable in
    let keyed = placed_then name (codes "=") _ _ _ _ _ _ named c.put_bytes-at-3.ensures in
    placed_then (left ++ signed_decimal c.args.value) (10 ∷ []) _ _ _ _ _ _ (placed_then left (signed_decimal c.args.value) _ _ _ _ _ _ keyed value) c.put_bytes.ensures
