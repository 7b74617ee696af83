-- What a search finds is one place, and can be computed by a test. Assumes nothing.
use Rattle.std.proofs.Common.{◌≡◌, ℕ, zero, suc, ◌<◌, Bool, true, false, cond, List, [], ◌∷◌, length, get_or, Some, None, Option, refl, ap, ⊎_elim, arith}
use Rattle.std.proofs.lemmas.Bool.{cases_lt}
use Rattle.search.specs.Order.{FirstPlace}

-- a place, seen from one place further ahead
abbrev pub later : Option ℕ → Option ℕ
later None = None
later (Some i) = Some (suc i)

-- the first place whose item passes the test, or none
abbrev pub place_by : {X : Type 0} → (X → Bool) → List X → Option ℕ
place_by t [] = None
place_by t (x ∷ xs) = cond (t x) (Some 0) (later (place_by t xs))

-- two answers of one search are equal
pub first_unique : {X : Type 0} (same : X → X → Type 0) (xs : List X) (x : X) (r s : Option ℕ) → FirstPlace same xs x r → FirstPlace same xs x s → r ≡ s
first_unique same xs x None None p q = refl
first_unique same xs x None (Some j) p q = absurd (p j q.0 q.1)
first_unique same xs x (Some i) None p q = absurd (q i p.0 p.1)
first_unique same xs x (Some i) (Some j) p q =
    ⊎_elim
    (λ h. absurd (q.2 i h p.1))
    (λ h. ⊎_elim (λ k. absurd (p.2 j k q.1)) (λ k. let e : i ≡ j = omega arith in ap Some e) (cases_lt j i))
    (cases_lt i j)

-- what fails at the front and at each place past it fails at each place
none_below : (Q : ℕ → Type 0) (n : ℕ) → (Q 0 → ⊥) → ((k : ℕ) → k < n → Q (suc k) → ⊥) → (k : ℕ) → k < suc n → Q k → ⊥
none_below Q n front past zero h s = front s
none_below Q n front past (suc k) h s = past k (omega arith) s

-- the search, one item further ahead, by the test's answer b at that item
first_more : {X : Type 0} (same : X → X → Type 0) (t : X → Bool) (x y : X) (ys : List X) (b : Bool) (o : Option ℕ) → t y ≡ b
    → ((z : X) → same x z → t z ≡ true) → ((z : X) → t z ≡ true → same x z)
    → FirstPlace same ys x o → FirstPlace same (y ∷ ys) x (cond b (Some 0) (later o))
first_more same t x y ys true o e f g p = (omega arith, g y e, λ k h s. omega arith)
first_more same t x y ys false None e f g p =
    none_below (λ k. same x (get_or (y ∷ ys) k x)) (length ys) (λ s. let u = f y s in let w : ◌≡◌ {A = ℕ} 0 1 = cc in omega arith) p
first_more same t x y ys false (Some i) e f g p =
    (omega (arith, p.0), p.1, none_below (λ k. same x (get_or (y ∷ ys) k x)) i (λ s. let u = f y s in let w : ◌≡◌ {A = ℕ} 0 1 = cc in omega arith) p.2)

-- the first place that passes a test for being the same as x is the first place of x
pub place_by_first : {X : Type 0} (same : X → X → Type 0) (t : X → Bool) (xs : List X) (x : X) → ((y : X) → same x y → t y ≡ true) → ((y : X) → t y ≡ true → same x y) → FirstPlace same xs x (place_by t xs)
place_by_first same t [] x f g = λ k h s. omega arith
place_by_first same t (y ∷ ys) x f g = first_more same t x y ys (t y) (place_by t ys) refl f g (place_by_first same t ys x f g)

-- what a search finds is the first place that passes the test
pub first_place_by : {X : Type 0} (same : X → X → Type 0) (t : X → Bool) (xs : List X) (x : X) (r : Option ℕ) → ((y : X) → same x y → t y ≡ true) → ((y : X) → t y ≡ true → same x y) → FirstPlace same xs x r → r ≡ place_by t xs
first_place_by same t xs x r f g p = first_unique same xs x r (place_by t xs) p (place_by_first same t xs x f g)
