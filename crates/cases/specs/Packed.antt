-- What a text on one line spells. Assumes nothing.
use Rattle.std.specs.Prelude.{ℕ, cond, ◌==◌}

-- the byte 47, which is `/`, spells the byte 10, which ends a line
abbrev pub unpacked_byte : ℕ → ℕ
unpacked_byte b = cond (b == 47) 10 b
