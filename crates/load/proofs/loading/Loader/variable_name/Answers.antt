use Rattle.std.proofs.Common.{sym, arith}
use Rattle.std.proofs.lemmas.Bool.{ltb-true}
use Rattle.sheet.specs.PartialSheet.{partial_sheet_of}
use Rattle.load.specs.Parsing.{content_of_lines}
use Rattle.load.proofs.NamePlaces.{named}
use Rattle.load.proofs.LoopTurns.{drafted_ok}
use Rattle.load.proofs.loading.Loader.variable_name.Goals as goal

pub returns-clause-name : goal.returns-clause-name
returns-clause-name c =
    let read = drafted_ok c.read_text.result c.in_ok-ok.field-0 c.read_text.new.draft _ c.in_ok-ok.ensures.value c.read_text.ensures in
    let inside = ltb-true c.args.k _ (sym c.in_ok-get.ensures.lookup.0) in
    named c.args.text c.args.k (content_of_lines (partial_sheet_of c.read_text.new.draft) c.in_ok-ok.field-0) c.name_at.result read (omega (arith, inside, c.deref.ensures.len)) c.name_at.ensures
