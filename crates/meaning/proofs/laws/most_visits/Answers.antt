use Rattle.std.proofs.Common.{refl}
use Rattle.meaning.specs.Passes.{pass_fuel}
use Rattle.meaning.proofs.laws.most_visits.Goals as goal
use Rattle.meaning.proofs.Fuel.{fuel_suffices}

pub returns : goal.returns
unfolding pass_fuel
returns c = record { visits = refl; suffices = fuel_suffices }
