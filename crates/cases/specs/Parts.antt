-- What a line of a table of examples says. It goes by its key, which stands ahead of the first `=`, the byte 61. Assumes nothing.
use Rattle.std.specs.Prelude.{ℕ, cond, ◌||◌, List, [], ◌∷◌, length, codes, ◌==◌}
use Rattle.std.specs.Str.{bytes_eq}
use Rattle.text.specs.Cut.{before}
use Rattle.cases.specs.declared.part.Part.{Part}
use Rattle.cases.specs.declared.part.Part.TheVariants.{Name, Formula, Text, Answer, Reading, Record, Closing, End, Other}

-- what a line with this key says
abbrev pub part_named : List ℕ → Part
part_named k =
    cond (bytes_eq k (codes "example")) Name
    (cond (bytes_eq k (codes "formula")) Formula
    (cond (bytes_eq k (codes "text")) Text
    (cond (bytes_eq k (codes "answer")) Answer
    (cond (bytes_eq k (codes "reading")) Reading
    (cond (bytes_eq k (codes "record")) Record
    (cond (bytes_eq k (codes "verdict") || bytes_eq k (codes "refused")) Closing Other))))))

-- what a line says: an empty one ends an example, and one without a `=` is any other
abbrev pub part_in : List ℕ → Part
part_in [] = End
part_in (b ∷ bs) = cond (length (before 61 (b ∷ bs)) == length (b ∷ bs)) Other (part_named (before 61 (b ∷ bs)))
