-- All trials at once: the checker plays them.
use Rattle.std.proofs.Common.{◌≡◌, map, Some, refl, subst}
use Rattle.std.specs.Fmt.{digits}
use Rattle.meaning.specs.Passes.{pass_fuel}
use Rattle.trials.specs.Trials.{counted, out_of_range, unsaid, both_ends, negative_length, negative_rounds, empty_round, shared_state, one_state, trial_list, AllComeTrue}
use Rattle.trials.proofs.PlayedRuns.{all_tried_out}
use Rattle.trials.proofs.PlayedIsTrue.{AllTrueIf, all_tried}

as_told : all_tried_out (map (λ t. t.lines) trial_list) ≡ Some trial_list
unfolding digits pass_fuel counted out_of_range unsaid both_ends negative_length negative_rounds empty_round shared_state one_state
as_told = refl

pub all_come_true : AllComeTrue
all_come_true = subst AllTrueIf as_told (all_tried (map (λ t. t.lines) trial_list))
