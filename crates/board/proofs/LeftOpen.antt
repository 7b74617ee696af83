-- What a board shows of its work.
use Rattle.std.proofs.Common.{◌≡◌, ℕ, zero, suc, ◌+◌, ◌<◌, ◌≤◌, cond, List, [], ◌∷◌, map, length, get_or, take, is_none, ℤ, pos, Some, None, Option, sym, refl, ap, ◌∙◌, arith, ext_get_or}
use Rattle.std.specs.List.{position, position_from, range_with_len}
use Rattle.std.specs.Option.{option_map_or}
use Rattle.std.proofs.lemmas.Iterator.Adapters.{position_from-zero}
use Rattle.meaning.specs.declared.duties.LeftOpen.{LeftOpen}
use Rattle.meaning.specs.declared.duties.LeftOpen.TheVariants.{Variable}
use Rattle.std.proofs.lemmas.List.FromFn.{length-map-range_with_len, get_or-map-range_with_len}
use Rattle.meaning.specs.Runs.{lowest_by, lowest_unknown}

-- the lowest unknown variable is the first place that is not known
pub lowest_at : (l : List (Option ℤ)) (f : ℕ → Option ℤ) (x n : ℕ) (o : Option LeftOpen) → n ≤ length l → ((j : ℕ) → get_or l j None ≡ f (x + j))
    → lowest_unknown f x n o ≡ option_map_or (λ i. Some (Variable i)) (position_from is_none x (take n l)) o
lowest_at l f x zero o h e = refl
lowest_at [] f x (suc n) o h e = absurd (omega arith)
lowest_at (v ∷ l) f x (suc n) o h e =
    let a : x + 0 ≡ x = omega arith in
    let b : x + 1 ≡ suc x = omega arith in
    ap (λ q. lowest_by q x (lowest_unknown f (suc x) n o)) (sym (e 0 ∙ ap f a))
    ∙ by v (lowest_at l f (suc x) n o (omega arith) (λ j. let c : x + suc j ≡ suc x + j = omega arith in e (suc j) ∙ ap f c) ∙ ap (λ z. option_map_or (λ i. Some (Variable i)) (position_from is_none z (take n l)) o) (sym b))
  where
    by : (q : Option ℤ) → lowest_unknown f (suc x) n o ≡ option_map_or (λ i. Some (Variable i)) (position_from is_none (x + 1) (take n l)) o
        → lowest_by q x (lowest_unknown f (suc x) n o) ≡ option_map_or (λ i. Some (Variable i)) (cond (is_none q) (Some x) (position_from is_none (x + 1) (take n l))) o
    by None ih = refl
    by (Some z) ih = ih

pub lowest_found : (l : List (Option ℤ)) (n : ℕ) (o : Option LeftOpen) (r : Option ℕ) → n ≤ length l → r ≡ position is_none (take n l)
    → option_map_or (λ i. Some (Variable i)) r o ≡ lowest_unknown (λ x. get_or l x None) 0 n o
lowest_found l n o r h p =
    ap (λ z. option_map_or (λ i. Some (Variable i)) z o) (p ∙ position_from-zero is_none (take n l))
    ∙ sym (lowest_at l (λ x. get_or l x None) 0 n o h (λ j. let z : j ≡ 0 + j = omega arith in ap (λ x. get_or l x None) z))

-- a list with the value of a function at each place
pub as_counted : (f : ℕ → ℤ) (l : List ℤ) (n x : ℕ) → length l ≡ n → n ≤ x → ((j : ℕ) → j < x → get_or l j (pos 0) ≡ f j) → l ≡ map f (range_with_len 0 n)
as_counted f l n x e k h =
    ext_get_or (pos 0) l (map f (range_with_len 0 n)) (e ∙ sym (length-map-range_with_len f 0 n))
    (λ j p. h j (omega arith) ∙ sym (get_or-map-range_with_len f 0 n j j (pos 0) (omega arith) (omega arith)))
