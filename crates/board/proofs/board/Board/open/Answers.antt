-- A span is opened where there is none so and both lists have room.
use Rattle.std.proofs.Common.{true, sym, ap, ◌∙◌, inl, inr, arith}
use Rattle.meaning.specs.Work.{Work, goes}
use Rattle.board.specs.Work.{store}
use Rattle.board.proofs.Rows.{open_full, open_new}
use Rattle.board.proofs.board.Board.open.Goals as goal
use Rattle.board.proofs.board.Board.open.Goals.{then-len-ge-MOST_SPANS-via-then-len-ge-MOST_SPANS, then-len-ge-MOST_SPANS-via-else-len-ge-MOST_SPANS+then-len-ge-MOST_DUTIES}

pub returns-then-len-ge-MOST_SPANS : goal.returns-then-len-ge-MOST_SPANS
returns-then-len-ge-MOST_SPANS c =
    let b = c.args.self.now in
    open_full (store b) c.args.opening (sym c.if-has_opened.ensures)
    (elim c.then-len-ge-MOST_SPANS.branch [
      | then-len-ge-MOST_SPANS-via-then-len-ge-MOST_SPANS w ↦ inl (omega (arith, w.if-len-ge-MOST_SPANS.true, c.len.ensures, b.rows.ok.0))
      | then-len-ge-MOST_SPANS-via-else-len-ge-MOST_SPANS+then-len-ge-MOST_DUTIES w ↦ inr (omega (arith, w.if-len-ge-MOST_DUTIES.true, w.len-else-len-ge-MOST_SPANS.ensures, b.duties.list.ok.0))
    ])

pub returns : goal.returns
returns c =
    let b = c.args.self.now in
    ap (λ (w : Work). goes w true) c.push_span.ensures
    ∙ open_new (store b) c.args.opening (sym c.if-has_opened.ensures) (omega (arith, c.if-len-ge-MOST_SPANS.false, c.len.ensures, b.rows.ok.0)) (omega (arith, c.if-len-ge-MOST_DUTIES.false, c.len-else-len-ge-MOST_SPANS.ensures, b.duties.list.ok.0))
