-- The span lies in another.
use Rattle.std.proofs.Common.{Bool, ◌||◌, sym, ap, ◌∙◌}
use Rattle.board.specs.Work.{work_of}
use Rattle.rules.proofs.KnownEnds.{span_ended, both_parts}
use Rattle.rules.proofs.spans.visit_span.Goals as goal

pub returns-then-taken : goal.returns-then-taken
returns-then-taken c =
    let v = work_of c.inherit_last.new.board in
    let u = work_of c.give_on.new.board in
    record {
      visited = both_parts _ c.in_ok-taken.taken c.in_ok-handed.handed.changed c.args.span.opening c.in-Some.opening c.args.span.serial (work_of c.args.board.now) v u c.in-Some.is c.in_ok-taken.ensures c.in_ok-handed.ensures.visited
          (c.if-taken.true ∙ sym (ap (λ (z : Bool). z || c.in_ok-handed.handed.changed) c.if-taken.true));
      done = span_ended _ c.args.span.opening c.in-Some.opening c.args.span.serial u c.in-Some.is c.in_ok-handed.ensures.done;
    }

pub returns-else-taken : goal.returns-else-taken
returns-else-taken c =
    let v = work_of c.inherit_last.new.board in
    let u = work_of c.give_on.new.board in
    record {
      visited = both_parts _ c.in_ok-taken.taken c.in_ok-handed.handed.changed c.args.span.opening c.in-Some.opening c.args.span.serial (work_of c.args.board.now) v u c.in-Some.is c.in_ok-taken.ensures c.in_ok-handed.ensures.visited
          (sym (ap (λ (z : Bool). z || c.in_ok-handed.handed.changed) c.if-taken.false));
      done = span_ended _ c.args.span.opening c.in-Some.opening c.args.span.serial u c.in-Some.is c.in_ok-handed.ensures.done;
    }
