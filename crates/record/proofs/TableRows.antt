-- Rows of a table: how one more is written, where its values lie, and what else stays. Assumes nothing.
use Rattle.std.proofs.Common.{◌≡◌, ℕ, ◌+◌, ◌*◌, ◌/◌, ◌<◌, ◌≤◌, List, [], ◌∷◌, ◌++◌, length, get_or, take, drop, ℤ, pos, Some, None, Option, sym, ap, ◌∙◌, mul-le-mul_right, add-mul, div-mul-le_self, arith}
use lib.Arith.{digits_lt}
use Rattle.std.specs.List.{slice_get}
use Rattle.std.proofs.lemmas.List.FromFn.{length-map-range_with_len, get_or-map-range_with_len, map-range_with_len_more}
use Rattle.std.proofs.lemmas.List.{get_or-take, get_or-drop, length-take, length-drop, take_at, drop_at, take-take, drop-take, length-take-le, same_lists}
use Rattle.std.proofs.lemmas.Option.{slice_get-get_or, slice_get_past}
use borrow.Rule.Slice.PartMut.{put_mid}
use Rattle.std.proofs.lemmas.Slice.{take-put_mid_below}
use Rattle.record.specs.Rules.{value_there, look_at}
use Rattle.record.specs.Rows.{row, rows, table_capacity}

-- a place in a row lies in a memory that has so many rows
pub place_within : (k n w v size : ℕ) → k < n → v < w → n * w ≤ size → k * w + v < size
place_within k n w v size p q r = let h = digits_lt {q = k} {m = n} {r = v} {c = w} p q in omega arith

-- the rows of the capacity lie in the memory
pub whole_fits : (n room w size : ℕ) → n + room ≡ table_capacity size w → (n + room) * w ≤ size
whole_fits n room w size e =
    let a : n + room ≤ size / w = omega arith in
    let b : (n + room) * w ≤ size / w * w = mul-le-mul_right w a in
    let d = div-mul-le_self size w in
    omega (arith, b, d)

-- so do those that are written
pub rows_fit : (n room w size : ℕ) → n + room ≡ table_capacity size w → n * w ≤ size
rows_fit n room w size e = let a = whole_fits n room w size e in let d = add-mul n room w in omega (arith, a, d)

-- and the one that is written next
pub next_fits : (n room w size : ℕ) → 0 < room → n + room ≡ table_capacity size w → n * w + w ≤ size
next_fits n room w size p e =
    let a : n + 1 ≤ n + room = omega arith in
    let b : (n + 1) * w ≤ (n + room) * w = mul-le-mul_right w a in
    let d = add-mul n 1 w in
    let f = whole_fits n room w size e in
    omega (arith, b, d, f)

-- there are as many rows as were counted
pub length_rows : (w n : ℕ) (mem : List ℤ) → n ≡ length (rows w n mem)
length_rows w n mem = sym (length-map-range_with_len (row w mem) 0 n)

-- the row at a place of the list
pub nth_row : (w n k : ℕ) (mem : List ℤ) → k < n → slice_get (rows w n mem) k ≡ Some (row w mem k)
nth_row w n k mem p =
    slice_get-get_or (rows w n mem) k [] (let h = length_rows w n mem in omega arith)
    ∙ ap (λ (y : List ℤ). Some y) (get_or-map-range_with_len (row w mem) 0 n k k [] p (omega arith))

-- a value that is there
pub look_inside : (w n k v : ℕ) (mem : List ℤ) → k < n → v < w → n * w ≤ length mem → Some (get_or mem (k * w + v) (pos 0)) ≡ look_at (rows w n mem) k v
look_inside w n k v mem p q r =
    let lt : v < length (row w mem k) =
    let i = place_within k n w v (length mem) p q r in
    simp (length-take, length-drop) (omega arith) in
    let f : slice_get (row w mem k) v ≡ Some (get_or mem (k * w + v) (pos 0)) =
    slice_get-get_or (row w mem k) v (pos 0) lt ∙ ap (λ (y : ℤ). Some y) (get_or-take w (drop (k * w) mem) v (pos 0) q ∙ get_or-drop (k * w) mem v (pos 0)) in
    sym (ap (λ (o : Option (List ℤ)). value_there o v) (nth_row w n k mem p) ∙ f)

-- a state that is not there
pub look_past : (w n k v : ℕ) (mem : List ℤ) → n ≤ k → None ≡ look_at (rows w n mem) k v
look_past w n k v mem p =
    sym (ap (λ (o : Option (List ℤ)). value_there o v) (slice_get_past (rows w n mem) k (let h = length_rows w n mem in omega arith)))

-- a variable that is not there
pub look_wide : (w n k v : ℕ) (mem : List ℤ) → k < n → w ≤ v → None ≡ look_at (rows w n mem) k v
look_wide w n k v mem p q =
    sym (ap (λ (o : Option (List ℤ)). value_there o v) (nth_row w n k mem p) ∙ slice_get_past (row w mem k) v (simp length-take (omega arith)))

-- a row of the front that two memories share
row_shared : (w n k : ℕ) (a b : List ℤ) → k < n → take (n * w) a ≡ take (n * w) b → row w a k ≡ row w b k
row_shared w n k a b p e =
    let o : k + 1 ≤ n = omega arith in
    let m : (k + 1) * w ≤ n * w = mul-le-mul_right w o in
    let d = add-mul k 1 w in
    let h : k * w + w ≤ n * w = omega (arith, d, m) in
    sym (drop-take (k * w) w a)
    ∙ ap (drop (k * w)) (sym (take-take (k * w + w) (n * w) a h) ∙ ap (take (k * w + w)) e ∙ take-take (k * w + w) (n * w) b h)
    ∙ drop-take (k * w) w b

-- the rows of the front that two memories share
pub rows-shared : (w n : ℕ) (a b : List ℤ) → take (n * w) a ≡ take (n * w) b → rows w n a ≡ rows w n b
rows-shared w n a b e =
    same_lists (rows w n a) (rows w n b) (sym (length_rows w n a) ∙ length_rows w n b)
    (λ k d h. let p : k < n = (let l = length_rows w n a in omega arith) in
    get_or-map-range_with_len (row w a) 0 n k k d p (omega arith) ∙ row_shared w n k a b p e ∙ sym (get_or-map-range_with_len (row w b) 0 n k k d p (omega arith)))

-- a state written behind the others is one row more
pub rows_more : (w n k : ℕ) (mem xs : List ℤ) → k ≡ w → length xs ≡ w → n * w + w ≤ length mem → rows w (n + 1) (put_mid (n * w) k mem xs) ≡ rows w n mem ++ xs ∷ []
rows_more w n k mem xs d e h =
    let m = put_mid (n * w) k mem xs in
    let f : take (n * w) m ≡ take (n * w) mem = take-put_mid_below (n * w) k mem xs (n * w) (omega arith) (omega arith) in
    let l : length (take (n * w) mem) ≡ n * w = length-take-le (n * w) mem (omega arith) in
    let r : row w m n ≡ xs = ap (take w) (drop_at (take (n * w) mem) _ (n * w) l) ∙ take_at xs _ w e in
    map-range_with_len_more (row w m) 0 n n (omega arith)
    ∙ ap (λ (y : List (List ℤ)). y ++ row w m n ∷ []) (rows-shared w n m mem f)
    ∙ ap (λ (y : List ℤ). rows w n mem ++ y ∷ []) r
