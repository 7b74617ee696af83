-- Where a value stands in a text. Assumes nothing.
use Rattle.std.proofs.Common.{◌≡◌, ℕ, zero, suc, ◌+◌, ◌*◌, ◌<◌, ◌≤◌, List, ℤ, Some, None, Option, refl, sym, ap, ◌∙◌, add-mul, zero-add, arith}
use Rattle.std.specs.List.{slice_get}
use Rattle.std.proofs.lemmas.Option.{slice_get_past}
use Rattle.text.specs.Cut.{after}
use Rattle.record.specs.Rules.{look_at, value_there}
use Rattle.record.specs.ReadingBack.{past, number_or_zero, read_values, read_states}
use Rattle.record.proofs.ReadBack.{length_values, length_states}

-- some lines, and then others
past_past : (m n : ℕ) (t : List ℕ) → past m (past n t) ≡ past (n + m) t
unfolding past
past_past m zero t = ap (λ (k : ℕ). past k t) (sym (zero-add m))
past_past m (suc n) t = past_past m n (after 10 t) ∙ ap (λ (k : ℕ). past k t) (let e : suc (n + m) ≡ suc n + m = omega arith in e)

-- the value at a place of a state
nth_value : (w v : ℕ) (t : List ℕ) → v < w → slice_get (read_values w t) v ≡ Some (number_or_zero (past v t))
unfolding read_values past
nth_value zero v t h = absurd (omega arith)
nth_value (suc w) zero t h = refl
nth_value (suc w) (suc v) t h = nth_value w v (after 10 t) (omega arith)

-- the state at a place of a record
nth_state : (w n k : ℕ) (t : List ℕ) → k < n → slice_get (read_states w n t) k ≡ Some (read_values w (past (k * (w + 1) + 1) t))
unfolding read_states past
nth_state w zero k t h = absurd (omega arith)
nth_state w (suc n) zero t h = ap (λ (m : ℕ). Some (read_values w (past m t))) (let e : 1 ≡ 0 * (w + 1) + 1 = omega arith in e)
nth_state w (suc n) (suc k) t h =
    let e : suc (w + (k * (w + 1) + 1)) ≡ suc k * (w + 1) + 1 = omega (arith, add-mul k 1 (w + 1)) in
    nth_state w n k (past w (after 10 t)) (omega arith)
    ∙ ap (λ (l : List ℕ). Some (read_values w l)) (past_past (k * (w + 1) + 1) w (after 10 t) ∙ ap (λ (m : ℕ). past m t) e)

-- a value that is there
pub look_inside : (w n k v : ℕ) (t : List ℕ) → k < n → v < w → Some (number_or_zero (past (k * (w + 1) + 1 + v) t)) ≡ look_at (read_states w n t) k v
look_inside w n k v t h l =
    sym (ap (λ (o : Option (List ℤ)). value_there o v) (nth_state w n k t h)
    ∙ nth_value w v (past (k * (w + 1) + 1) t) l
    ∙ ap (λ (s : List ℕ). Some (number_or_zero s)) (past_past v (k * (w + 1) + 1) t))

-- a state that is not there
pub look_past : (w n k v : ℕ) (t : List ℕ) → n ≤ k → None ≡ look_at (read_states w n t) k v
look_past w n k v t h = sym (ap (λ (o : Option (List ℤ)). value_there o v) (slice_get_past (read_states w n t) k (omega (arith, length_states w n t))))

-- a variable that is not there
pub look_wide : (w n k v : ℕ) (t : List ℕ) → k < n → w ≤ v → None ≡ look_at (read_states w n t) k v
look_wide w n k v t h l =
    sym (ap (λ (o : Option (List ℤ)). value_there o v) (nth_state w n k t h)
    ∙ slice_get_past (read_values w (past (k * (w + 1) + 1) t)) v (omega (arith, length_values w (past (k * (w + 1) + 1) t))))
