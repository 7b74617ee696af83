-- A row with another end is a span with that end.
use Rattle.std.proofs.Common.{vec_items, vec_len}
use Rattle.board.specs.Work.{store}
use Rattle.board.proofs.Rows.{write_rising, write_means, placed_serial}
use Rattle.board.proofs.PlaceTables.{listed-set}
use Rattle.board.proofs.board.Board.set_end.Goals as goal

pub invariant_of-self : goal.invariant_of-self
invariant_of-self c =
    let b = c.args.self.now in
    record {
      few = b.few;
      room = b.room;
      ordered = write_rising (vec_items b.rows) c.args.row (vec_len b.rows) b.next c.index_mut.result.now c.args.end c.index_mut.ensures.value c.requires b.rows.ok.0 b.ordered;
      opened = listed-set b.openings (vec_items b.rows) c.args.row (vec_len b.rows) c.index_mut.result.now c.args.end c.index_mut.ensures.value c.requires b.rows.ok.0 b.opened;
      counted = b.counted;
    }

pub returns : goal.returns
returns c s p =
    let b = c.args.self.now in
    write_means (store b) c.args.row (vec_len b.rows) s c.index_mut.result.now c.args.end c.index_mut.ensures.value b.rows.ok.0 (placed_serial (vec_items b.rows) s c.args.row p) b.ordered
