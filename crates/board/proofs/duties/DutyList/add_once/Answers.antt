-- No duty of the bucket stands at its place, or this one, or the list is searched.
use Rattle.std.proofs.Common.{sym, ap, ◌∙◌, map, vec_items}
use Rattle.std.proofs.lemmas.Bool.{cond-true}
use Rattle.meaning.specs.Work.{has_duty}
use Rattle.board.specs.Buckets.{duty_in, is_in, place_after}
use Rattle.board.proofs.PlaceTables.{no_duty, met, past_end}
use Rattle.board.proofs.duties.DutyList.add_once.Goals as goal

pub add_new-requires-clause-absent : goal.add_new-requires-clause-absent
add_new-requires-clause-absent c =
    let s = c.args.self.now in
    let own = c.bucket-own.result in
    sym (no_duty (map (place_after s.gone) (vec_items s.arrivals)) (vec_items s.list) c.args.duty own _ s.listed c.bucket-own.ensures c.place_in.ensures
    (ap (is_in own) (past_end duty_in (vec_items s.list) _ c.place_in.result c.deref.ensures.value c.in_default.ensures.lookup.0)))

pub returns-then-eq-clause-answer : goal.returns-then-eq-clause-answer
returns-then-eq-clause-answer c =
    let l = vec_items c.args.self.now.list in
    let found = c.in-Some.ensures.lookup in
    sym (cond-true (has_duty c.args.duty l) _ _ (met l _ c.args.duty _ _ c.deref.ensures.value found.0 found.1 (sym c.eq.ensures ∙ c.if-eq.true)))
