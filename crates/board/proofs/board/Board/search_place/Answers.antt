-- The first row that has the serial.
use Rattle.std.proofs.Common.{rules, vec_items}
use Rattle.std.proofs.lemmas.Iterator.{YieldsList-from_slice}
use Rattle.std.proofs.lemmas.Iterator.Search.{position_from_yields_List}
use Rattle.board.specs.Store.{has_serial}
use Rattle.board.proofs.board.Board.search_place.Goals as goal

pub returns : goal.returns
returns c = position_from_yields_List (has_serial c.args.serial) _ _ c.position.result c.position.ensures.ran (YieldsList-from_slice (vec_items c.args.self.now.rows) cc) (λ x b q k. search rules)
