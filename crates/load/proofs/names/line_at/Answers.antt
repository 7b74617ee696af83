use Rattle.std.proofs.Common.{ℕ, List, sym, refl, ap, ◌∙◌, subst, arith, Bor}
use Rattle.load.specs.Naming.{LineAt}
use Rattle.text.specs.Cut.{pieces_from, parted}
use Rattle.text.proofs.CutsFit.{left_in}
use Rattle.load.proofs.LineWalk.{none_left, line_came, line_last}
use Rattle.load.proofs.names.line_at.Goals as goal

pub loop-i-init : goal.loop-i-init
loop-i-init c =
    let t = c.args.text.now in
    (refl, ap (pieces_from 10 t) c.new-reader.ensures.place ∙ left_in 10 t 0 (omega arith), c.new-reader.ensures.place)

pub returns-in_err-line : goal.returns-in_err-line
returns-in_err-line c =
    let e = c.loop-i.invariant.0 ∙ c.new-reader.ensures.text in
    let none = ap (λ (r : Bor (List ℕ)). pieces_from 10 r.now c.loop-i.reader.place) (sym e) ∙ c.in_err-line.ensures.cases.0 in
    let few = none_left (parted 10 c.args.text.now) c.loop-i._i c.args.k (sym c.loop-i.invariant.1 ∙ none) (omega arith) in
    subst (LineAt c.args.text c.args.k) (sym c.from_residual.ensures) few

pub loop-i-preserved : goal.loop-i-preserved
loop-i-preserved c =
    let e = c.loop-i.invariant.0 ∙ c.new-reader.ensures.text in
    let h = c.in_ok-line.ensures.cases in
    let came = line_came c.loop-i.reader.text c.args.text c.in_ok-line.field-0 c.loop-i.reader.place c.line.new.self.place c.loop-i._i e c.loop-i.invariant.1 h in
    (c.in_ok-line.ensures.text ∙ c.loop-i.invariant.0, sym came.more, omega (arith, h.2, came.place, c.loop-i.invariant.2))

pub returns : goal.returns
returns c =
    line_last c.loop-i.reader.text c.args.text c.loop-i.reader.place c.line-2.new.self.place c.loop-i._i c.args.k c.line-2.result
    (c.loop-i.invariant.0 ∙ c.new-reader.ensures.text) (omega arith) c.loop-i.invariant.1 c.loop-i.invariant.2 c.line-2.ensures.cases
