-- The visits to the spans are the visits to one list, which has 64 at most.
use Rattle.std.proofs.Common.{vec_items, sym, ◌∙◌, arith}
use Rattle.std.proofs.lemmas.List.{length-map}
use Rattle.board.specs.Work.{work_of}
use Rattle.board.specs.Store.{span_of}
use Rattle.settling.proofs.TwoLists.{spans_as}
use Rattle.settling.proofs.pass.Pass.visit_spans.Goals as goal

pub returns-clause-visited : goal.returns-clause-visited
returns-clause-visited g c =
    let b = c.args.board.now in
    c.visit_all.ensures.visited ∙ sym (spans_as 65 0 (work_of b) (omega arith) (omega (arith, length-map (vec_items b.rows) span_of, b.rows.ok.0, b.few)))
