-- Settling a state opens as many serials as spans.
use Rattle.std.proofs.Common.{◌≡◌, ℕ, ◌+◌, ◌*◌, ◌≤◌, vec_items, false, Bool, length, refl, arith}
use Rattle.std.proofs.lemmas.List.{length-map}
use Rattle.meaning.specs.Intervals.{Setting}
use Rattle.meaning.specs.Work.{Work, goes}
use Rattle.meaning.specs.Passes.{Settles}
use Rattle.meaning.proofs.VisitsKeep.{kept_settles}
use Rattle.meaning.proofs.Starts.{Counted, counted_kept}
use Rattle.board.specs.declared.board.Board.{Board}
use Rattle.board.specs.Work.{work_of}
use Rattle.board.specs.Store.{span_of}

-- the next serial is known by the numbers of spans
pub serials : (S : Setting) (k : ℕ) (w u : Work) (c : Bool) → Settles S k w (goes u c) → u.next + length w.spans ≡ w.next + length u.spans
serials S k w u c s = kept_settles S (Counted w) (counted_kept S w) k w u c s refl

-- which stays low, since a board has few spans
pub next_few_serials : (S : Setting) (k : ℕ) (b c : Board) → Settles S k (work_of b) (goes (work_of c) false) → b.next ≤ 64 * k + 1 → c.next ≤ 64 * (k + 1) + 1
next_few_serials S k b c s h = omega (arith, serials S k (work_of b) (work_of c) false s, length-map (vec_items c.rows) span_of, c.rows.ok.0, c.few)
