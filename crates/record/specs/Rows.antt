-- How a table holds states of one width: state k from place k * width. Assumes nothing.
use Rattle.std.specs.Prelude.{ℕ, ◌*◌, ◌/◌, List, map, take, drop, ℤ}
use Rattle.std.specs.List.{range_with_len}
use Rattle.record.specs.Rules.{cut}

-- state k of a table
abbrev pub row : ℕ → List ℤ → ℕ → List ℤ
row width memory k = take width (drop (k * width) memory)

-- the first n states of a table
abbrev pub rows : ℕ → ℕ → List ℤ → List (List ℤ)
rows width n memory = map (row width memory) (range_with_len 0 n)

-- how many states of a width a table of so many numbers takes
abbrev pub table_capacity : ℕ → ℕ → ℕ
table_capacity size width = cut (size / width)
