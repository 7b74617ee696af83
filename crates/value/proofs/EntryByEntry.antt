-- Tables that are made from left to right, each entry from those before it: sizes, numbers and known numbers alike.
use Rattle.std.proofs.Common.{◌≡◌, ℕ, zero, suc, ◌+◌, ◌<◌, ◌≤◌, true, List, [], ◌∷◌, ◌++◌, length, get_or, sym, refl, ap, ◌∙◌, arith}
use Rattle.std.proofs.lemmas.List.{length_push, get_or_push, get_or_past}
use Rattle.sheet.specs.declared.elements.Expression.{Expression}
use Rattle.sheet.specs.declared.elements.Expression.TheVariants.{Last}
use Rattle.sheet.specs.Limits.{expression_ok, ExpressionsOk}
use Rattle.sheet.specs.Sizes.{tabled}
use Rattle.sheet.proofs.LeftToRight.{tabled_length, tabled_front}

-- two lists, as long as each other, whose entries are related place by place
pub data Alike {X Y : Type 0} (R : X → Y → Type 0) : List X → List Y → Type 0 where
  none : Alike R [] []
  more : {x : X} {y : Y} {xs : List X} {ys : List Y} → R x y → Alike R xs ys → Alike R (x ∷ xs) (y ∷ ys)

-- one more entry at the end
pub alike_push : {X Y : Type 0} (R : X → Y → Type 0) {xs : List X} {ys : List Y} (x : X) (y : Y) → Alike R xs ys → R x y → Alike R (xs ++ x ∷ []) (ys ++ y ∷ [])
alike_push R x y none h = more h none
alike_push R x y (more k t) h = more k (alike_push R x y t h)

-- the entries at a place, also past the end
pub alike_at : {X Y : Type 0} (R : X → Y → Type 0) (d : X) (e : Y) → R d e → {xs : List X} {ys : List Y} → Alike R xs ys → (i : ℕ) → R (get_or xs i d) (get_or ys i e)
alike_at R d e h none i = h
alike_at R d e h (more k t) zero = k
alike_at R d e h (more k t) (suc i) = alike_at R d e h t i

-- two tables are related place by place if each step keeps the relation
pub tables_alike : {X Y : Type 0} (R : X → Y → Type 0) (f : List X → Expression → X) (g : List Y → Expression → Y) (es : List Expression) (xs : List X) (ys : List Y)
    → ((k : ℕ) → k < length es → (us : List X) (vs : List Y) → Alike R us vs → R (f us (get_or es k Last)) (g vs (get_or es k Last)))
    → Alike R xs ys → Alike R (tabled f es xs) (tabled g es ys)
tables_alike R f g [] xs ys step h = h
tables_alike R f g (e ∷ es) xs ys step h =
    tables_alike R f g es (xs ++ f xs e ∷ []) (ys ++ g ys e ∷ []) (λ k p. step (suc k) (omega arith))
    (alike_push R (f xs e) (g ys e) h (step 0 (omega arith) xs ys h))

-- a step looks at the entries of lower operands alone
abbrev pub Looks : {X : Type 0} → ℕ → X → (List X → Expression → X) → Type 0
Looks {X = X} n d f = (e : Expression) (k : ℕ) (xs ys : List X) → expression_ok n k e ≡ true → ((a : ℕ) → a < k → get_or xs a d ≡ get_or ys a d) → f xs e ≡ f ys e

-- an entry that is still to come is the step's, over the whole table
entry_from : {X : Type 0} (n : ℕ) (f : List X → Expression → X) (d : X) → Looks n d f → (es : List Expression) (done : List X)
    → ((k : ℕ) → k < length es → expression_ok n (length done + k) (get_or es k Last) ≡ true)
    → (k : ℕ) → k < length es → get_or (tabled f es done) (length done + k) d ≡ f (tabled f es done) (get_or es k Last)
entry_from n f d look [] done ok k h = absurd (omega arith)
entry_from n f d look (e ∷ es) done ok zero h =
    let here : length done + 0 ≡ length done = omega arith in
    let whole = tabled f es (done ++ f done e ∷ []) in
    ap (λ (j : ℕ). get_or whole j d) here
    ∙ tabled_front f es (done ++ f done e ∷ []) (length done) d (rw length_push (omega arith))
    ∙ get_or_push done (f done e) d (length done) refl
    ∙ look e (length done) done whole (ap (λ (j : ℕ). expression_ok n j e) (sym here) ∙ ok 0 (omega arith)) (λ a p. sym (tabled_front f (e ∷ es) done a d p))
entry_from n f d look (e ∷ es) done ok (suc k) h =
    let pushed = done ++ f done e ∷ [] in
    let place : (j : ℕ) → length pushed + j ≡ length done + suc j = λ j. rw length_push (omega arith) in
    ap (λ (j : ℕ). get_or (tabled f es pushed) j d) (sym (place k))
    ∙ entry_from n f d look es pushed (λ j p. ap (λ (i : ℕ). expression_ok n i (get_or es j Last)) (place j) ∙ ok (suc j) (omega arith)) k (omega arith)

-- an entry is the step's, over the whole table
pub table_entry : {X : Type 0} (n : ℕ) (f : List X → Expression → X) (d : X) → Looks n d f → (es : List Expression) → ExpressionsOk n es
    → (i : ℕ) → i < length es → get_or (tabled f es []) i d ≡ f (tabled f es []) (get_or es i Last)
table_entry n f d look es ok i h =
    let place : (k : ℕ) → 0 + k ≡ k = λ k. omega arith in
    ap (λ (j : ℕ). get_or (tabled f es []) j d) (sym (place i))
    ∙ entry_from n f d look es [] (λ k p. ap (λ (j : ℕ). expression_ok n j (get_or es k Last)) (place k) ∙ ok k p) i h

-- past the end there is nothing
pub table_past : {X : Type 0} (f : List X → Expression → X) (d : X) (es : List Expression) (i : ℕ) → length es ≤ i → get_or (tabled f es []) i d ≡ d
table_past f d es i h = get_or_past (tabled f es []) i d (omega (arith, tabled_length f es []))
