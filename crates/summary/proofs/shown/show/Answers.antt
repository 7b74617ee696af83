-- What is shown is what has come of the text.
use Rattle.std.proofs.Common.{take}
use Rattle.summary.specs.ClosingText.{closing_text}
use Rattle.engine.specs.Meant.{meant}
use Rattle.summary.proofs.ShownRuns.{shows_of, front_lines, front_of}
use Rattle.summary.proofs.shown.show.Goals as goal

pub returns-clause-shown : goal.returns-clause-shown
returns-clause-shown g c = λ h.
    let x = c.record_text-end.result.1 in
    let e = c.closing_lines.ensures in
    let front = front_lines c.closing_lines.result (closing_text x) c.args.closing.now c.closing_lines.new.bytes e.short h e.answer e.written in
    shows_of _ (g.F.Feed.readings c.args.feed.now) c.args.states c.record_text-end.result.0 c.args.record.now c.record_text-end.new.bytes (take c.closing_lines.result c.closing_lines.new.bytes) x (meant c.args.engine.now) (meant c.record_text-end.new.engine) c.record_text-end.ensures front

pub returns-clause-closing_end : goal.returns-clause-closing_end
returns-clause-closing_end g c =
    let e = c.closing_lines.ensures in
    front_of c.closing_lines.result (closing_text c.record_text-end.result.1) c.args.closing.now c.closing_lines.new.bytes e.answer e.written

pub returns-clause-text_end : goal.returns-clause-text_end
returns-clause-text_end g c = c.record_text-end.ensures.front
