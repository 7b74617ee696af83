-- A row whose span was opened so decides.
use Rattle.std.proofs.Common.{rules, vec_items, ◌∙◌}
use Rattle.std.proofs.lemmas.Iterator.{YieldsList-from_slice}
use Rattle.std.proofs.lemmas.Iterator.Search.{any_from_yields_List}
use Rattle.board.proofs.DerivedEqual.{opened_row, opened_rows}
use Rattle.board.proofs.board.Board.search_opened.Goals as goal

pub returns : goal.returns
returns c =
    let rows = vec_items c.args.self.now.rows in
    any_from_yields_List (opened_row c.args.opening) _ _ c.any.result c.any.ensures.ran (YieldsList-from_slice rows cc) (λ x b q k. search rules)
    ∙ opened_rows c.args.opening rows
