-- each number so far is written at its place
use Rattle.std.proofs.Common.{◌≡◌, ℕ, ◌<◌, length, pos, get_or, unwrap_or, None}
use Rattle.board.proofs.board.Board.numbers.Given as goal

abbrev pub invariant-loop-x : goal.invariant-loop-x
invariant-loop-x l = record {
  long : length l.numbers ≡ 16;
  written : (j : ℕ) → j < l.x → get_or l.numbers j (pos 0) ≡ unwrap_or (get_or l.self.values j None) (pos 0);
}
