-- The tables are those of state 0.
use Rattle.std.proofs.Common.{arith, ap}
use Rattle.meaning.specs.Work.{Work}
use Rattle.board.specs.Work.{store}
use Rattle.settling.proofs.ReadyTables.{first_ready}
use Rattle.settling.proofs.settler.Settler.begin.Goals as goal

pub invariant_of-self : goal.invariant_of-self
invariant_of-self c = record { ready = first_ready c.args.run (store c.begin.new.self) c.begin.ensures; few_serials = omega (arith, ap (λ (w : Work). w.next) c.begin.ensures) }
