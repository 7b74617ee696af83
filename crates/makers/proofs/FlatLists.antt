-- How the states of a flat list are taken one after another. Assumes nothing.
use Rattle.std.proofs.Common.{◌≡◌, ℕ, zero, suc, ◌+◌, ◌-◌, ◌*◌, ◌/◌, ◌<◌, ◌≤◌, Bool, true, false, if◌then◌else◌, List, [], ◌∷◌, ◌++◌, map, length, get_or, take, drop, ℤ, sym, ap, subst, ◌∙◌, add-mul, zero-add, zero-mul, refl, subst, arith}
use Rattle.std.proofs.Math.Nat.{mul-add-div_right}
use Rattle.std.proofs.lemmas.Nat.{div-mul-add}
use Rattle.std.specs.List.{range_with_len}
use Rattle.std.proofs.lemmas.List.FromFn.{fill_by_all}
use Rattle.std.proofs.lemmas.List.{append_assoc, length-append, drop-drop, drop_at, take_at, append-nil, length-take-le, get_or-take}
use Rattle.std.specs.Array.{IsFromFnResult, IsFromFnResultFrom}
use denote.Param.Members.{Mut, Called}
use Rattle.record.specs.Rules.{fitting}
use Rattle.record.specs.Rows.{row, rows}
use Rattle.makers.specs.Carried.{taken, filled}

-- a row behind the first one is a row of the rest
row_beyond : (w k : ℕ) (s rest : List ℤ) → length s ≡ w → row w (s ++ rest) (k + 1) ≡ row w rest k
row_beyond w k s rest e =
    let a : (k + 1) * w ≡ w + k * w = (let d = add-mul k 1 w in omega (arith, d)) in
    ap (λ (n : ℕ). take w (drop n (s ++ rest))) a ∙ ap (take w) (sym (drop-drop (k * w) w (s ++ rest)) ∙ ap (drop (k * w)) (drop_at s rest w e))

-- and so are those from one place on
rows_beyond : (w k n : ℕ) (s rest : List ℤ) → length s ≡ w → map (row w (s ++ rest)) (range_with_len (k + 1) n) ≡ map (row w rest) (range_with_len k n)
rows_beyond w k zero s rest e = refl
rows_beyond w k (suc n) s rest e =
    ap (λ (y : List ℤ). y ∷ map (row w (s ++ rest)) (range_with_len (k + 1 + 1) n)) (row_beyond w k s rest e)
    ∙ ap (λ (y : List (List ℤ)). row w rest k ∷ y) (rows_beyond w (k + 1) n s rest e)

-- the whole states of a flat list that begins with one
rows_ahead : (w : ℕ) (s rest : List ℤ) → 0 < w → length s ≡ w → rows w (length (s ++ rest) / w) (s ++ rest) ≡ s ∷ rows w (length rest / w) rest
rows_ahead w s rest h e =
    let l : length (s ++ rest) ≡ 1 * w + length rest = (let a = length-append s rest in omega (arith, a, e)) in
    let n : length (s ++ rest) / w ≡ suc (length rest / w) = ap (λ (y : ℕ). y / w) l ∙ mul-add-div_right h 1 (length rest) ∙ omega arith in
    let r : row w (s ++ rest) 0 ≡ s = ap (λ (y : ℕ). take w (drop y (s ++ rest))) (zero-mul w) ∙ take_at s rest w e in
    ap (λ (y : ℕ). rows w y (s ++ rest)) n
    ∙ ap (λ (y : List ℤ). y ∷ map (row w (s ++ rest)) (range_with_len 1 (length rest / w))) r
    ∙ ap (λ (y : List (List ℤ)). s ∷ y) (rows_beyond w 0 (length rest / w) s rest e)

-- what is filled from a flat list that begins with a whole state
filled_more : (room w : ℕ) (xs s rest : List ℤ) → 0 < w → xs ≡ s ++ rest → length s ≡ w → filled room w xs ≡ (if fitting room w s then s ∷ filled (room - 1) w rest else [])
filled_more room w xs s rest h e l = ap (filled room w) e ∙ ap (taken room w) (rows_ahead w s rest h l)

-- the state there is taken, and the rest is filled
pub filled_on : (room w : ℕ) (xs s rest : List ℤ) (before all : List (List ℤ)) → 0 < w → xs ≡ s ++ rest → length s ≡ w → fitting room w s ≡ true → before ++ filled room w xs ≡ all → before ++ s ∷ [] ++ filled (room - 1) w rest ≡ all
filled_on room w xs s rest before all h e l f p =
    append_assoc before (s ∷ []) (filled (room - 1) w rest)
    ∙ ap (λ (y : List (List ℤ)). before ++ y) (sym (filled_more room w xs s rest h e l ∙ ap (λ (y : Bool). if y then s ∷ filled (room - 1) w rest else []) f))
    ∙ p

-- the state there is denied, which ends the filling
pub filled_stop : (room w : ℕ) (xs s rest : List ℤ) (before all : List (List ℤ)) → 0 < w → xs ≡ s ++ rest → length s ≡ w → fitting room w s ≡ false → before ++ filled room w xs ≡ all → before ≡ all
filled_stop room w xs s rest before all h e l f p =
    sym (append-nil before)
    ∙ ap (λ (y : List (List ℤ)). before ++ y) (sym (filled_more room w xs s rest h e l ∙ ap (λ (y : Bool). if y then s ∷ filled (room - 1) w rest else []) f))
    ∙ p

-- what is left is shorter than a state
pub filled_end : (room w : ℕ) (xs : List ℤ) (before all : List (List ℤ)) → length xs < w → before ++ filled room w xs ≡ all → before ≡ all
filled_end room w xs before all h p =
    let n : length xs / w ≡ 0 = ap (λ (y : ℕ). y / w) (omega arith) ∙ div-mul-add 0 w (length xs) h in
    sym (append-nil before) ∙ ap (λ (y : List (List ℤ)). before ++ y) (sym (ap (λ (y : ℕ). taken room w (rows w y xs)) n)) ∙ p

-- what calls of a closure that changes nothing gave, at a place below w
made_at : {F B : Type 0} (g : Mut F (ℕ × Unit {0}) B) (h : ℕ → B) (f : F) (ys : List B) (d : B) (w : ℕ) → ((x : ℕ) (y : B) (q : F) → Called g f (x, tt) y q → (q ≡ f) × (x < w → y ≡ h x))
    → (i n : ℕ) → IsFromFnResultFrom g f ys i n → (k : ℕ) → k < n → i + k < w → get_or ys (i + k) d ≡ h (i + k)
made_at g h f ys d w s i zero e k p r = absurd (omega arith)
made_at g h f ys d w s i (suc n) e zero p r =
    let P : ℕ → Type 0 = λ m. get_or ys m d ≡ h m in
    subst P (omega arith) (e.2.1 d ∙ (s i e.1 e.0 e.3).1 (omega arith))
made_at g h f ys d w s i (suc n) e (suc k) p r =
    let P : ℕ → Type 0 = λ m. get_or ys m d ≡ h m in
    let c = subst (λ y. IsFromFnResultFrom g y ys (i + 1) n) (s i e.1 e.0 e.3).0 e.4 in
    subst P (omega arith) (made_at g h f ys d w s (i + 1) n c k (omega arith) (omega arith))

-- the first w places of an array that such calls made
pub made_front : {F B : Type 0} (g : Mut F (ℕ × Unit {0}) B) (h : ℕ → B) (f : F) (ys : List B) (d : B) (w n : ℕ) → w ≤ n → ((x : ℕ) (y : B) (q : F) → Called g f (x, tt) y q → (q ≡ f) × (x < w → y ≡ h x)) → IsFromFnResult g f ys n → take w ys ≡ map h (range_with_len 0 w)
made_front g h f ys d w n p s e =
    let l = e.long in
    let P : ℕ → Type 0 = λ m. get_or ys m d ≡ h m in
    fill_by_all h (take w ys) w d (length-take-le w ys (omega arith)) (λ k q. get_or-take w ys k d q ∙ subst P (zero-add k) (made_at g h f ys d w s 0 n e.each k (omega arith) (omega arith)))
