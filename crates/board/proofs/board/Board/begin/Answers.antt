-- The tables are those of state 0.
use Rattle.std.proofs.Common.{List, [], ◌∷◌, ◌++◌, ap, ◌∙◌}
use Rattle.meaning.specs.declared.duties.Duty.{Duty}
use Rattle.board.specs.declared.row.Row.{Row}
use Rattle.board.proofs.Rows.{no_row}
use Rattle.board.proofs.NextState.{begin_means}
use Rattle.board.proofs.board.Board.begin.Goals as goal

pub returns : goal.returns
returns c =
    begin_means c.args.run _ _ _ _ c.forget_values.ensures
    (c.push_reserved.ensures.items ∙ ap (λ (l : List Row). l ++ no_row ∷ []) c.clear-3.ensures.items)
    (c.push.ensures ∙ ap (λ (l : List Duty). l ++ c.first_duty.result ∷ []) c.clear.ensures ∙ ap (λ (d : Duty). d ∷ []) c.first_duty.ensures.duty)
    c.clear-2.ensures
