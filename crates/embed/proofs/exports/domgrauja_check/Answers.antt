-- The loader's work, or nothing.
use Rattle.load.specs.Parsing.{parse_sheet}
use Rattle.embed.specs.Answers.{Checks, work}
use Rattle.embed.proofs.ExportAnswers.{lacks}
use Rattle.embed.proofs.exports.domgrauja_check.Goals as goal

pub returns-in-Ok : goal.returns-in-Ok
returns-in-Ok c = work c.check.ensures

pub returns-in-Err : goal.returns-in-Err
returns-in-Err c = lacks (Checks (parse_sheet c.args.text.now) c.args.sentence.now) c.args.sentence.now c.lacking.result c.lacking.ensures
