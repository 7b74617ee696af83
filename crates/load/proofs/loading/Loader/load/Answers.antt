use Rattle.std.proofs.Common.{Ok, sym, ap, ◌∙◌}
use Rattle.sheet.specs.PartialSheet.{partial_sheet_of}
use Rattle.load.specs.Parsing.{content_of_lines}
use Rattle.load.proofs.AcceptedIsSheet.{sound}
use Rattle.load.proofs.Laws.{accepts_the_sheets, tells_the_first_fault}
use Rattle.load.proofs.loading.Loader.load.Goals as goal

pub trade-requires : goal.trade-requires
trade-requires c = (sound c.args.text.now (content_of_lines (partial_sheet_of c.read_text.new.draft) c.in_ok-run.run') c.in_ok-run.ensures).1

pub returns : goal.returns
returns c = record { outcome = c.in_ok-run.ensures ∙ ap Ok (sym c.trade.ensures.sheet); accepts = accepts_the_sheets; refuses = tells_the_first_fault }

pub returns-in_err-run-clause-accepts : goal.returns-in_err-run-clause-accepts
returns-in_err-run-clause-accepts c = accepts_the_sheets

pub returns-in_err-run-clause-refuses : goal.returns-in_err-run-clause-refuses
returns-in_err-run-clause-refuses c = tells_the_first_fault
