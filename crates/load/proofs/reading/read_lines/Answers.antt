use Rattle.std.proofs.Common.{ℕ, List, ◌∷◌, length, sym, ap, ◌∙◌, arith, Bor}
use Rattle.text.specs.Cut.{pieces_from}
use Rattle.sheet.specs.PartialSheet.{partial_sheet_of}
use Rattle.load.proofs.LoopTurns.{item_read, room, turn, still_good}
use Rattle.load.proofs.reading.read_lines.Goals as goal

pub add-requires : goal.add-requires
add-requires c =
    let read = item_read _ _ _ _ c.map_err.ensures.cases c.in_ok-item.was ∙ c.read_line.ensures in
    room (partial_sheet_of c.loop-line.draft) c.in-Some.line.now c.in_ok-item.item c.loop-line.invariant.2 read

pub loop-line-preserved : goal.loop-line-preserved
loop-line-preserved c =
    let d = partial_sheet_of c.loop-line.draft in
    let read = item_read _ _ _ _ c.map_err.ensures.cases c.in_ok-item.was ∙ c.read_line.ensures in
    let h = c.in-Some.ensures.cases in
    let same = c.in-Some.ensures.text in
    let long = ap (λ (r : Bor (List ℕ)). length r.now) same in
    let text = ap (λ (r : Bor (List ℕ)). pieces_from 10 r.now c.line.new.self.place) same in (
      turn c.loop-line.n d (partial_sheet_of c.add.new.self) c.in-Some.line.now _ _ c.in_ok-item.item read c.add.ensures (h.1 ∙ ap (λ ls. c.in-Some.line.now ∷ ls) (sym text)) ∙ c.loop-line.invariant.0,
      same ∙ c.loop-line.invariant.1,
      still_good d (partial_sheet_of c.add.new.self) c.in-Some.line.now c.in_ok-item.item c.loop-line.invariant.2 read c.add.ensures,
      omega (arith, h.2, c.loop-line.invariant.3),
      omega (arith, h.3, long),
    )
