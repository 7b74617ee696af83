-- Each number is written at its place.
use Rattle.std.proofs.Common.{◌≡◌, ℕ, ℤ, to_z, of_z, w64, get_or, set, length-set, pos, None, unwrap_or, ap, ◌∙◌, arith, rules}
use Rattle.std.proofs.lemmas.List.Edits.{fill_by_more}
use Rattle.board.proofs.LeftOpen.{as_counted}
use Rattle.board.proofs.board.Board.numbers.Goals as goal

pub returns : goal.returns
returns c =
    let l = c.args.self.now.values in
    as_counted (λ x. unwrap_or (get_or l x None) (pos 0)) c.loop-x.numbers 16 16 c.loop-x.invariant.long (omega arith) (λ j p. c.loop-x.invariant.written j (omega arith))

pub loop-x-preserved : goal.loop-x-preserved
loop-x-preserved c =
    let l = c.loop-x in
    let f = λ (x : ℕ). unwrap_or (get_or c.args.self.now.values x None) (pos 0) in
    let kept : to_z w64 (of_z w64 c.unwrap_or.result) ≡ c.unwrap_or.result = search rules in
    record {
      long = omega (arith, length-set {A = ℤ});
      written = λ j h. ap (λ (z : ℤ). get_or (set l.numbers l.x z) j (pos 0)) (kept ∙ c.unwrap_or.ensures) ∙ fill_by_more f l.numbers l.x (pos 0) (omega arith) l.invariant.written j h;
    }
