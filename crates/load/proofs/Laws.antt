-- The laws of loading. Assumes nothing.
use Rattle.load.specs.LoadingLaws.{AcceptsTheSheets, TellsTheFirstFault}
use Rattle.load.proofs.AcceptedIsSheet.{sound}
use Rattle.load.proofs.SheetIsAccepted.{complete}
use Rattle.load.proofs.Refused.{refused}

pub accepts_the_sheets : AcceptsTheSheets
accepts_the_sheets text c = (sound text c, λ p. complete text c p.0 p.1)

pub tells_the_first_fault : TellsTheFirstFault
tells_the_first_fault = refused
