-- What an engine means. Assumes nothing.
use Rattle.board.specs.Work.{work_of}
use Rattle.settling.specs.declared.settler.Settler.{Settler}
use Rattle.calls.specs.declared.answers.Condition.{Condition}
use Rattle.calls.specs.declared.answers.Condition.TheVariants.{Idle, Open, Ended}
use Rattle.calls.specs.Standing.{Standing, idle, running, ended, Meant}
use Rattle.engine.specs.declared.engine.Engine.{Engine}
use Rattle.sheet.specs.ContentOf.{content_of}

-- how an engine in this condition stands, whose settler is this
abbrev pub standing_by : Condition → Settler → Standing
standing_by Idle s = idle
standing_by Open s = running s.state (work_of s.board)
standing_by (Ended x) s = ended x

-- what an engine means
abbrev pub meant : Engine → Meant
meant e = record { sheet = content_of e.loader.sheet; standing = standing_by e.condition e.settler }
