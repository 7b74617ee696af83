-- A row with an unknown end decides; the rows tell their own ends.
use Rattle.std.proofs.Common.{rules, vec_items, ◌∙◌}
use Rattle.std.proofs.lemmas.Iterator.{YieldsList-from_slice}
use Rattle.std.proofs.lemmas.Iterator.Search.{all_from_yields_List}
use Rattle.board.specs.Store.{ends_of}
use Rattle.board.proofs.DerivedEqual.{ended_row, ended_rows}
use Rattle.board.proofs.Rows.{rising_of}
use Rattle.board.proofs.NextState.{own_end}
use Rattle.board.proofs.board.Board.all_ended.Goals as goal

pub returns : goal.returns
returns c =
    let b = c.args.self.now in
    let rows = vec_items b.rows in
    all_from_yields_List ended_row _ _ c.all.result c.all.ensures.ran (YieldsList-from_slice rows cc) (λ x b q k. search rules)
    ∙ ended_rows (ends_of rows) rows (own_end (rising_of 0 rows b.next b.ordered))
