-- What hangs on a word. Assumes nothing.
use Rattle.std.specs.Prelude.{ℕ, if◌then◌else◌, List}
use Rattle.std.specs.Str.{bytes_eq}

-- x where w is the word v, else y
abbrev pub where_word : {X : Type 0} → List ℕ → List ℕ → X → X → X
where_word w v x y = if bytes_eq w v then x else y
