-- The parts stand one behind the other.
use Rattle.std.proofs.Common.{[], ◌∷◌, ◌++◌, codes, arith}
use Rattle.record.specs.StatesText.{number_line}
use Rattle.record.proofs.PlacedParts.{placed_then}
use Rattle.summary.proofs.LineLengths.{line_short}
use Rattle.summary.proofs.put_lines.put_standing.Goals as goal

pub put_line-requires : goal.put_line-requires
put_line-requires c =
    let l = line_short (codes "states=") c.args.states c.ranges.states in
    omega (arith, l, c.requires, c.put_bytes-at.ensures.end, c.put_bytes-at-2.ensures.end, c.put_bytes-at-3.ensures.end, c.put_bytes-at.auto.bytes, c.put_bytes-at-2.auto.bytes, c.put_bytes-at-3.auto.bytes)

pub returns-clause-placed : goal.returns-clause-placed
returns-clause-placed c =
    let key = codes "verdict=" in
    let word = key ++ c.args.word.now in
    let line = word ++ 10 ∷ [] in
    let named = placed_then key c.args.word.now _ _ _ _ _ _ c.put_bytes-at.ensures c.put_bytes-at-2.ensures in
    let ended = placed_then word (10 ∷ []) _ _ _ _ _ _ named c.put_bytes-at-3.ensures in
    placed_then line (number_line (codes "states=") c.args.states) _ _ _ _ _ _ ended c.put_line.ensures

pub returns-clause-within : goal.returns-clause-within
returns-clause-within c =
    let l = line_short (codes "states=") c.args.states c.ranges.states in
    omega (arith, l, c.requires, c.put_bytes-at.ensures.end, c.put_bytes-at-2.ensures.end, c.put_bytes-at-3.ensures.end, c.put_line.ensures.end)
