-- A span of the list lives, and so does the one that it lies in.
use Rattle.meaning.specs.Rules.{visit_span}
use Rattle.meaning.proofs.Lists.{nth_in}
use Rattle.board.specs.Work.{work_of}
use Rattle.settling.proofs.VisitsKeepOrder.{told_ok, span_present, span_later, span_well_formed}
use Rattle.settling.proofs.InVain.{span_vain}
use Rattle.settling.proofs.spans.PassVisitorSpan.visit.Goals as goal

pub visit_span-requires-clause-own : goal.visit_span-requires-clause-own
visit_span-requires-clause-own g c = span_present (work_of c.args.board.now).spans c.requires.there.0 c.args.item c.requires.there.1

pub visit_span-requires-clause-outer : goal.visit_span-requires-clause-outer
visit_span-requires-clause-outer g c = c.requires.well_formed.2.nested c.args.item (nth_in (work_of c.args.board.now).spans c.requires.there.0 c.args.item c.requires.there.1)

pub returns-clause-leaves : goal.returns-clause-leaves
returns-clause-leaves g c =
    let t = c.args.item in
    let w = work_of c.args.board.now in
    let u = work_of c.visit_span.new.board in
    told_ok c.visit_span.result u (visit_span t w) _ c.visit_span.ensures.visited
    (λ b e. record {
      well_formed = λ S m y. span_well_formed S c.requires.there.0 t w u b y c.requires.there.1 e;
      later = span_later c.requires.well_formed.0 t w u b e;
    })

pub returns-clause-vain : goal.returns-clause-vain
returns-clause-vain g c =
    let w = work_of c.args.board.now in
    let u = work_of c.visit_span.new.board in
    span_vain c.requires.well_formed.0 c.requires.there.0 c.args.item w u c.visit_span.result c.requires.well_formed.2 c.requires.there.1 c.visit_span.ensures.visited c.visit_span.ensures.done
