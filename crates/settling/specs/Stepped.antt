-- What a step comes to. Assumes nothing.
use Rattle.std.specs.Prelude.{ℕ, if◌then◌else◌, take, Ok, Err, Result}
use Rattle.meaning.specs.declared.duties.Stop.{Stop}
use Rattle.meaning.specs.Work.{Work}
use Rattle.meaning.specs.Runs.{Step, stopped, recorded, finished}
use Rattle.settling.specs.declared.settled.SettledState.{SettledState}

-- what an answer tells of a state with n variables, where the next one starts with the work u
abbrev pub stepped : ℕ → Result SettledState Stop → Work → Step
stepped n (Ok x) u = if x.last then finished (take n x.numbers) else recorded (take n x.numbers) u
stepped n (Err s) u = stopped s
