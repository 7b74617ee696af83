-- Each denial has a number that is told as one.
use Rattle.std.proofs.Common.{◌≡◌, [], ◌++◌, refl, codes, decimal}
use Rattle.calls.specs.declared.answers.Denial.{Denial}
use Rattle.calls.specs.declared.answers.Denial.TheVariants.{RunIsOpen, NoRunIsOpen, WrongStates, OtherRecorder, NoSuchState, NoSuchVariable}
use Rattle.calls.specs.Published.{denial_number}
use Rattle.script.specs.AnswerText.{numbered_text}
use Rattle.script.proofs.answer.DeniedDisplay.fmt.Goals as goal

denied_text : (d : Denial) → numbered_text (denial_number d) [] ≡ codes "denied " ++ decimal (denial_number d)
denied_text RunIsOpen = refl
denied_text NoRunIsOpen = refl
denied_text WrongStates = refl
denied_text OtherRecorder = refl
denied_text NoSuchState = refl
denied_text NoSuchVariable = refl

pub returns-clause-writes : goal.returns-clause-writes
returns-clause-writes g c = rw (denied_text c.args.self.now.0, ← c.number-number.ensures) c.write.ensures.writes
