-- Each row is asked once: a row that goes on stays, as the next state starts with it.
use Rattle.std.proofs.Common.{rules, vec_items}
use Rattle.board.proofs.NextState.{kept_in_turn}
use Rattle.board.proofs.turning.keep_rows.Goals as goal

pub returns-clause-items : goal.returns-clause-items
returns-clause-items c = kept_in_turn _ (λ s x b t y k. search rules) _ (vec_items c.args.rows.now) _ c.retain_mut.ensures.filtered
