-- A new row and a new duty are a new span.
use Rattle.std.proofs.Common.{◌+◌, List, vec_items, refl, Some, sym, ap, ◌∙◌, arith}
use Rattle.board.specs.declared.row.Row.{Row}
use Rattle.board.specs.Work.{store}
use Rattle.board.specs.Store.{rising}
use Rattle.board.specs.Buckets.{row_in}
use Rattle.board.proofs.PlaceTables.{listed-push}
use Rattle.board.proofs.Rows.{new_row, rising-push, push_means}
use Rattle.board.proofs.board.Board.push_span.Goals as goal

pub invariant_of-self : goal.invariant_of-self
invariant_of-self c =
    let b = c.args.self.now in
    record {
      few = omega arith;
      room = omega arith;
      ordered = ap (λ (x : List Row). rising 0 x (b.next + 1)) c.push_reserved.ensures.items ∙ rising-push 0 (vec_items b.rows) b.next (new_row c.args.opening b.next) refl b.ordered;
      opened = listed-push row_in b.openings (vec_items b.rows) _ (new_row c.args.opening b.next) _ _ b.opened (omega arith) (ap Some (sym c.bucket.ensures)) (c.len-place.ensures ∙ b.rows.ok.0) c.push_reserved.ensures.items;
      counted = (omega arith, omega arith);
    }

pub returns : goal.returns
returns c = let b = c.args.self.now in push_means (store b) c.args.opening _ _ b.ordered c.push_reserved.ensures.items c.push.ensures
