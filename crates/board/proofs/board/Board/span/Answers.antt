-- The span of the row at the place.
use Rattle.std.proofs.Common.{rules, vec_items}
use Rattle.board.specs.Store.{span_of}
use Rattle.board.proofs.PlaceTables.{made_at}
use Rattle.board.proofs.board.Board.span.Goals as goal

pub returns : goal.returns
returns c =
    let found = c.get.ensures.lookup in
    made_at span_of (vec_items c.args.self.now.rows) _ c.args.place _ _ _ c.deref.ensures.value found.0 found.1 c.map.ensures.cases (λ x y k. search rules)
