-- The lists trade places, and the rows that go on are kept.
use Rattle.std.proofs.Common.{List, map, vec_items, ap, ◌∙◌, arith}
use Rattle.board.specs.declared.row.Row.{Row}
use Rattle.board.specs.Work.{store}
use Rattle.board.specs.Store.{rising, kept_rows}
use Rattle.board.specs.Buckets.{row_in, all_lead}
use Rattle.board.proofs.PlaceTables.{listed-kept}
use Rattle.board.proofs.NextState.{turn_means, rising-kept}
use Rattle.board.proofs.board.Board.turn.Goals as goal

pub invariant_of-self : goal.invariant_of-self
invariant_of-self c =
    let b = c.args.self.now in
    record {
      few = omega arith;
      room = omega arith;
      ordered = ap (λ (x : List Row). rising 0 x b.next) c.keep_rows.ensures.items ∙ rising-kept 0 (vec_items b.rows) b.next b.ordered;
      opened = ap (λ (x : List Row). all_lead b.openings (map row_in x)) c.keep_rows.ensures.items ∙ listed-kept b.openings (map row_in (kept_rows (vec_items b.rows))) (vec_items b.rows);
      counted = (omega arith, c.requires);
    }

pub returns : goal.returns
returns c =
    let b = c.args.self.now in
    turn_means (store b) _ _ _ _ b.ordered c.forget_values.ensures c.keep_rows.ensures.items (ap (λ v. vec_items v.list) c.swap.ensures.x_after) c.clear.ensures
