-- What the memory of evaluation holds while a number is worked out. Only contracts of private functions cite it. Assumes nothing.
use Rattle.std.specs.Prelude.{◌≡◌, ℕ, ◌≤◌, Bool, true, false, List, ℤ, pos, Some, Option, vec_items, slice_index_or}
use Rattle.value.specs.declared.memo.Memo.{Memo}

-- if expression k was seen, the number that is kept for it is what g knows of its number
abbrev pub Right : (ℕ → Option ℤ) → List Bool → List ℤ → ℕ → Type 0
Right g seen numbers k = slice_index_or seen k false ≡ true → Some (slice_index_or numbers k (pos 0)) ≡ g k

-- that is so of each expression up to n
abbrev pub AllRight : (ℕ → Option ℤ) → ℕ → Memo → Type 0
AllRight g n m = (k : ℕ) → k ≤ n → Right g (vec_items m.seen) (vec_items m.numbers) k
