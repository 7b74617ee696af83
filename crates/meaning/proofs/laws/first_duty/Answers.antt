use Rattle.std.proofs.Common.{refl}
use Rattle.meaning.proofs.laws.first_duty.Goals as goal
use Rattle.meaning.proofs.Theorems.{settling_ends, finished_is_the_one, open_begins_all, contradiction_leaves_none}
use Rattle.meaning.proofs.EqualRuns.{equal_runs_agree}
use Rattle.meaning.proofs.OrderRuns.{order_makes_no_difference}

pub returns : goal.returns
returns c = record { duty = refl; ends = settling_ends; one = finished_is_the_one; begins = open_begins_all; none = contradiction_leaves_none; agree = equal_runs_agree; order = order_makes_no_difference }
