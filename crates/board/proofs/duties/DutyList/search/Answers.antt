-- The search finds a place exactly where the list has the duty.
use Rattle.std.proofs.Common.{◌∙◌, ap}
use Rattle.meaning.specs.Work.{has_duty}
use Rattle.board.proofs.Searching.{found_has}
use Rattle.board.proofs.duties.DutyList.search.Goals as goal

pub returns : goal.returns
returns c =
    let d = c.args.duty.now in
    c.is_some.ensures ∙ found_has c.deref.result.now d c.first_place.result c.first_place.ensures.place ∙ ap (has_duty d) c.deref.ensures.value
