use Rattle.std.proofs.Common.{refl}
use Rattle.trials.proofs.AllTrials.{all_come_true}
use Rattle.trials.proofs.trials.Goals as goal

pub returns : goal.returns
returns c = record { count = refl; come_true = all_come_true }
