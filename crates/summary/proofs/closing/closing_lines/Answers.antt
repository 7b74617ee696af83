-- The lines do not fit.
use Rattle.std.proofs.Common.{◌≡◌, length, rules}
use Rattle.summary.specs.ClosingText.{closing_text}
use Rattle.summary.proofs.ShownRuns.{none_fit}
use Rattle.summary.proofs.closing.closing_lines.Goals as goal

pub returns-else-length-bytes-clause-answer : goal.returns-else-length-bytes-clause-answer
returns-else-length-bytes-clause-answer c =
    let l : c.match-closing.length ≡ length (closing_text c.args.closing) = search rules in
    none_fit c.match-closing.length _ _ _ _ l c.if-length-bytes.false

pub returns-else-length-bytes-clause-written : goal.returns-else-length-bytes-clause-written
returns-else-length-bytes-clause-written c =
    let l : c.match-closing.length ≡ length (closing_text c.args.closing) = search rules in
    none_fit c.match-closing.length _ _ _ _ l c.if-length-bytes.false
