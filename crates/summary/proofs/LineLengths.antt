-- How long lines are. Assumes nothing.
use Rattle.std.proofs.Common.{ℕ, ◌+◌, ◌≤◌, List, length, decimal, Fits, w64, length-append, arith}
use Rattle.std.proofs.lemmas.Fmt.{length-decimal-le}
use Rattle.record.specs.StatesText.{number_line}

-- a number has at most 20 digits
pub line_short : (key : List ℕ) (n : ℕ) → Fits w64 n → length (number_line key n) ≤ length key + 21
line_short key n f =
    let a : length (decimal n) ≤ 20 = length-decimal-le 20 n (omega arith) (omega (arith, f.fits)) f.fits in
    simp length-append (omega arith)
