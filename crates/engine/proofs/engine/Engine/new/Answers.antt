-- The law of runs is proved from what the calls promise, and the law of advances from that of settling.
use Rattle.std.proofs.Common.{ap}
use Rattle.sheet.specs.Content.{Content}
use Rattle.calls.specs.Standing.{idle}
use Rattle.calls.proofs.AdvancesAlike.{advances_agree}
use Rattle.engine.proofs.LawOfRuns.{law_of_runs}
use Rattle.engine.proofs.engine.Engine.new.Goals as goal

pub returns-in_err-loader-clause-runs : goal.returns-in_err-loader-clause-runs
returns-in_err-loader-clause-runs c = law_of_runs

pub returns-in_err-settler-clause-runs : goal.returns-in_err-settler-clause-runs
returns-in_err-settler-clause-runs c = law_of_runs

pub returns-clause-runs : goal.returns-clause-runs
returns-clause-runs c = law_of_runs

pub returns-in_err-loader-clause-order : goal.returns-in_err-loader-clause-order
returns-in_err-loader-clause-order c = advances_agree

pub returns-in_err-settler-clause-order : goal.returns-in_err-settler-clause-order
returns-in_err-settler-clause-order c = advances_agree

pub returns-clause-order : goal.returns-clause-order
returns-clause-order c = advances_agree

pub returns-clause-holds : goal.returns-clause-holds
returns-clause-holds c = ap (λ (s : Content). record { sheet = s; standing = idle }) c.in_ok-loader.ensures
