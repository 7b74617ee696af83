-- What the trait promises of the lent memory is what the owner finds in its slice.
use Rattle.std.proofs.Common.{rules}
use Rattle.record.proofs.TableRows.{length_rows}
use Rattle.makers.proofs.owning.keep.Goals as goal

pub returns-clause-recorded : goal.returns-clause-recorded
returns-clause-recorded c = λ yes.
    let t = c.fill.new.recorder in
    let n = length_rows t.width t.count t.memory.now in
    search rules
