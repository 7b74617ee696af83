-- The run's work under the readings that are listed, or nothing.
use Rattle.std.proofs.Common.{List, ap, ◌∙◌, subst}
use Rattle.feed.specs.declared.list.Reading.{Reading}
use Rattle.feed.specs.Lists.{list_reads}
use Rattle.load.specs.Parsing.{parse_sheet}
use Rattle.engine.specs.Meant.{meant}
use Rattle.summary.specs.Shown.{InText}
use Rattle.embed.specs.declared.answer.AnswerNumbers.{AnswerNumbers}
use Rattle.embed.specs.Answers.{RunsInText, work}
use Rattle.embed.proofs.ExportAnswers.{lacks, recorded_states}
use Rattle.embed.proofs.exports.domgrauja_run_text.Goals as goal

pub returns-in-Ok : goal.returns-in-Ok
returns-in-Ok c =
    let end = c.record_text-length.result.0 in
    let x = c.record_text-length.result.1 in
    let b = meant c.in-Ok.engine in
    let d = meant c.record_text-length.new.engine in
    let run = subst (λ (l : List Reading). InText (parse_sheet c.args.text.now) (list_reads l) c.args.states end c.args.bytes.now c.record_text-length.new.bytes x b d) c.new-feed.ensures c.record_text-length.ensures in
    let count = ap (λ (a : AnswerNumbers). a.states) c.of.ensures ∙ recorded_states _ (list_reads c.args.readings.now) c.args.states _ 1 _ x run.recorder b d run.come in
    work (x, b, d, run, count, ap (λ (a : AnswerNumbers). record a { length = end }) c.of.ensures)

pub returns-in-Err : goal.returns-in-Err
returns-in-Err c = lacks (RunsInText (parse_sheet c.args.text.now) (list_reads c.args.readings.now) c.args.states c.args.bytes.now) c.args.bytes.now c.lacking.result c.lacking.ensures
