-- The only word is the first one, where none follows it.
use Rattle.script.proofs.StepByStep.{no_last, the_last}
use Rattle.script.proofs.call.last_word.Goals as goal

pub returns-in_err-word : goal.returns-in_err-word
returns-in_err-word c = no_last _ _ c.in_err-word.ensures.cases.0 c.from_residual.ensures

pub returns : goal.returns
returns c =
    the_last c.in_ok-word.word _ _ _ _ c.word-2.new.self.place _ _ _ c.word.ensures.text c.in_ok-word.ensures.cases.1 c.word-2.ensures.cases c.is_none.ensures c.then_some.ensures
