-- The duty that comes has its place.
use Rattle.std.proofs.Common.{vec_items, arith}
use Rattle.board.proofs.PlaceTables.{listed-come}
use Rattle.board.proofs.duties.DutyList.push_in.Goals as goal

pub invariant_of-self : goal.invariant_of-self
invariant_of-self c =
    let s = c.args.self.now in
    record {
      few = omega arith;
      room = omega arith;
      whole = s.whole;
      listed = listed-come (vec_items s.arrivals) (vec_items s.list) _ c.args.duty s.gone c.args.own _ s.listed (omega arith) c.requires.place (omega arith) (omega arith) (omega arith) c.push_reserved.ensures.items;
    }
