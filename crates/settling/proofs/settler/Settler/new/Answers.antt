-- The tables are empty.
use Rattle.std.proofs.Common.{refl, arith, ap}
use Rattle.meaning.specs.Work.{Work}
use Rattle.board.specs.Work.{store}
use Rattle.settling.proofs.ReadyTables.{new_ready}
use Rattle.settling.proofs.settler.Settler.new.Goals as goal

pub invariant_of-result : goal.invariant_of-result
invariant_of-result c = record { ready = new_ready (store c.in_ok-board.board) c.in_ok-board.ensures; few_serials = omega (arith, ap (λ (w : Work). w.next) c.in_ok-board.ensures) }

pub returns-clause-state : goal.returns-clause-state
returns-clause-state c = refl
