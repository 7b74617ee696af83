-- The line's parts stand one behind the other.
use Rattle.std.proofs.Common.{[], ◌∷◌, ◌++◌, ◌∙◌, decimal}
use Rattle.record.proofs.PlacedParts.{placed_then, placed_as}
use Rattle.record.proofs.placing.put_line.Goals as goal

pub returns : goal.returns
returns c =
    let key = c.args.key.now in
    let digits = placed_as _ (decimal c.args.number) _ _ _ _ (c.as_bytes.ensures.value ∙ c.format.ensures.text) c.put_bytes-at-2.ensures in
    placed_then (key ++ decimal c.args.number) (10 ∷ []) _ _ _ _ _ _ (placed_then key (decimal c.args.number) _ _ _ _ _ _ c.put_bytes-at.ensures digits) c.put_bytes.ensures
