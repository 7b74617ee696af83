-- A look is read word by word, as it is defined.
use Rattle.script.specs.declared.call.Call.TheVariants.{Look}
use Rattle.script.proofs.StepByStep.{next_word, no_word, a_number, no_number, the_end}
use Rattle.script.proofs.call.look_left.Goals as goal

pub returns-in_err-word : goal.returns-in_err-word
returns-in_err-word c = no_word _ _ _ c.in_err-word.ensures.cases.0 c.from_residual.ensures

pub returns-in_err-state : goal.returns-in_err-state
returns-in_err-state c =
    next_word _ _ _ _ _ _ _ c.word.ensures.text c.in_ok-word.ensures.cases.1 (no_number _ _ _ c.in_err-state.ensures c.from_residual-in_err-state.ensures)

pub returns-in_err-word-2 : goal.returns-in_err-word-2
returns-in_err-word-2 c =
    next_word _ _ _ _ _ _ _ c.word.ensures.text c.in_ok-word.ensures.cases.1 (a_number _ _ _ _ c.in_ok-state.ensures
    (no_word _ _ _ c.in_err-word-2.ensures.cases.0 c.from_residual-in_err-word-2.ensures))

pub returns-in_err-variable : goal.returns-in_err-variable
returns-in_err-variable c =
    next_word _ _ _ _ _ _ _ c.word.ensures.text c.in_ok-word.ensures.cases.1 (a_number _ _ _ _ c.in_ok-state.ensures
    (next_word _ _ _ _ _ _ _ c.word-2.ensures.text c.in_ok-word-2.ensures.cases.1 (no_number _ _ _ c.in_err-variable.ensures c.from_residual-in_err-variable.ensures)))

pub returns : goal.returns
returns c =
    let end = c.word-2.new.self in
    next_word _ _ _ _ _ _ _ c.word.ensures.text c.in_ok-word.ensures.cases.1 (a_number _ _ _ _ c.in_ok-state.ensures
    (next_word _ _ _ _ _ _ _ c.word-2.ensures.text c.in_ok-word-2.ensures.cases.1 (a_number _ _ _ _ c.in_ok-variable.ensures
    (the_end (Look c.in_ok-state.state c.in_ok-variable.variable) end.text end.place c.word-3.new.self.place _ _ _ c.word-3.ensures.cases c.is_none.ensures c.then_some.ensures))))
