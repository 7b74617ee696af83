-- No row of the bucket stands at its place, or the rows are asked.
use Rattle.std.proofs.Common.{sym, ap, ◌∙◌, vec_items}
use Rattle.board.specs.Buckets.{row_in, is_in}
use Rattle.board.proofs.PlaceTables.{none_opened, at_place, past_end, in_alike}
use Rattle.board.proofs.board.Board.has_opened.Goals as goal

pub returns-in-None : goal.returns-in-None
returns-in-None c =
    let b = c.args.self.now in
    let l = vec_items b.rows in
    let own = c.bucket-own.result in
    none_opened b.openings l c.args.opening own _ b.opened c.bucket-own.ensures c.from.ensures
    (ap (is_in own) (past_end row_in l _ c.from.result c.deref.ensures.value c.in-None.ensures.lookup.0))

pub returns-else-eq : goal.returns-else-eq
returns-else-eq c =
    let b = c.args.self.now in
    let l = vec_items b.rows in
    let own = c.bucket-own.result in
    let found = c.in-Some.ensures.lookup in
    c.if-eq.false
    ∙ none_opened b.openings l c.args.opening own _ b.opened c.bucket-own.ensures c.from.ensures
    (ap (is_in own) (at_place row_in l _ c.from.result _ c.deref.ensures.value found.0 found.1 ∙ sym c.opened_in.ensures)
    ∙ sym (in_alike c.opened_in.result own)
    ∙ sym c.eq.ensures
    ∙ c.if-eq.false)
