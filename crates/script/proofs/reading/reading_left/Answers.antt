-- A record is read word by word, as it is defined.
use Rattle.std.proofs.Common.{◌≡◌, ℕ, ℤ, arith}
use Rattle.std.specs.Bool.{then_some}
use Rattle.std.proofs.lemmas.Int.{ints, to_z-of_z}
use Rattle.feed.specs.declared.list.Reading.{Reading}
use Rattle.script.proofs.StepByStep.{next_word, no_word, a_number, no_number, the_end}
use Rattle.script.proofs.reading.reading_left.Goals as goal

-- the record of these three
abbrev made : ℕ → ℕ → ℤ → Reading
made k x z = record { state = k; variable = x; number = z }

pub returns-in_err-word : goal.returns-in_err-word
returns-in_err-word c = no_word _ _ _ c.in_err-word.ensures.cases.0 c.from_residual.ensures

pub returns-in_err-state : goal.returns-in_err-state
returns-in_err-state c =
    next_word _ _ _ _ _ _ _ c.word.ensures.text c.in_ok-word.ensures.cases.1 (no_number _ _ _ c.in_err-state.ensures c.from_residual-in_err-state.ensures)

pub returns-in_err-word-2 : goal.returns-in_err-word-2
returns-in_err-word-2 c =
    next_word _ _ _ _ _ _ _ c.word.ensures.text c.in_ok-word.ensures.cases.1 (a_number _ _ _ _ c.in_ok-state.ensures
    (no_word _ _ _ c.in_err-word-2.ensures.cases.0 c.from_residual-in_err-word-2.ensures))

pub returns-in_err-variable : goal.returns-in_err-variable
returns-in_err-variable c =
    next_word _ _ _ _ _ _ _ c.word.ensures.text c.in_ok-word.ensures.cases.1 (a_number _ _ _ _ c.in_ok-state.ensures
    (next_word _ _ _ _ _ _ _ c.word-2.ensures.text c.in_ok-word-2.ensures.cases.1 (no_number _ _ _ c.in_err-variable.ensures c.from_residual-in_err-variable.ensures)))

pub returns-in_err-word-3 : goal.returns-in_err-word-3
returns-in_err-word-3 c =
    next_word _ _ _ _ _ _ _ c.word.ensures.text c.in_ok-word.ensures.cases.1 (a_number _ _ _ _ c.in_ok-state.ensures
    (next_word _ _ _ _ _ _ _ c.word-2.ensures.text c.in_ok-word-2.ensures.cases.1 (a_number _ _ _ _ c.in_ok-variable.ensures
    (no_word _ _ _ c.in_err-word-3.ensures.cases.0 c.from_residual-in_err-word-3.ensures))))

pub returns-in_err-number : goal.returns-in_err-number
returns-in_err-number c =
    next_word _ _ _ _ _ _ _ c.word.ensures.text c.in_ok-word.ensures.cases.1 (a_number _ _ _ _ c.in_ok-state.ensures
    (next_word _ _ _ _ _ _ _ c.word-2.ensures.text c.in_ok-word-2.ensures.cases.1 (a_number _ _ _ _ c.in_ok-variable.ensures
    (next_word _ _ _ _ _ _ _ c.word-3.ensures.text c.in_ok-word-3.ensures.cases.1 (no_number _ _ _ c.in_err-number.ensures c.from_residual-in_err-number.ensures)))))

pub returns : goal.returns
returns c =
    let read = λ (z : ℤ). made c.in_ok-state.state c.in_ok-variable.variable z in
    let same : c.from.result ≡ c.in_ok-number.number = omega (arith, ints) in
    let end = c.word-3.new.self in
    let told : c.then_some.result ≡ then_some c.is_none.result (read c.in_ok-number.number) = search (arith, ints, to_z-of_z, c.then_some.ensures, c.from.ensures) in
    next_word _ _ _ _ _ _ _ c.word.ensures.text c.in_ok-word.ensures.cases.1 (a_number _ _ _ _ c.in_ok-state.ensures
    (next_word _ _ _ _ _ _ _ c.word-2.ensures.text c.in_ok-word-2.ensures.cases.1 (a_number _ _ _ _ c.in_ok-variable.ensures
    (next_word _ _ _ _ _ _ _ c.word-3.ensures.text c.in_ok-word-3.ensures.cases.1 (a_number _ _ _ _ c.in_ok-number.ensures
    (the_end (read c.in_ok-number.number) end.text end.place c.word-4.new.self.place _ _ _ c.word-4.ensures.cases c.is_none.ensures told))))))
