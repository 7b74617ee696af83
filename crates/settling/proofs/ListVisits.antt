-- The visits to a list, one after another, and the skips over its items.
use Rattle.std.proofs.Common.{◌≡◌, ℕ, zero, suc, ◌+◌, ◌-◌, ◌<◌, ◌≤◌, length, Bool, true, false, ◌||◌, List, set, get_or, Some, None, Option, sym, refl, ap, ◌∙◌, subst, ⊎_elim, get_or-set_other, get_or-set_same, arith}
use Rattle.std.specs.List.{slice_get}
use Rattle.std.proofs.lemmas.Bool.{cases_eq, cases_order}
use Rattle.meaning.specs.declared.duties.Stop.{Stop}
use Rattle.meaning.specs.Work.{Work, Outcome, stops, goes, also, and_then}
use Rattle.meaning.specs.WellFormed.{Extends}
use Rattle.meaning.proofs.Extending.{later_refl, later_trans}
use Rattle.meaning.proofs.Lists.{nth_within}
use Rattle.settling.specs.Walks.{visit_one, visit_from, InVain, SkippedBy}

-- or, of three
or_more : (a b c : Bool) → (a || (b || c)) ≡ ((a || b) || c)
or_more true b c = refl
or_more false b c = refl

-- something has changed before, and before that
also_twice : (a c : Bool) (o : Outcome) → also a (also c o) ≡ also (a || c) o
also_twice a c (stops s) = refl
also_twice a c (goes u b) = ap (goes u) (or_more a c b)

-- nothing more has changed
or_no : (a : Bool) → (a || false) ≡ a
or_no true = refl
or_no false = refl

-- or nothing, before
also_no : (o : Outcome) → also false o ≡ o
also_no (stops s) = refl
also_no (goes u b) = refl

-- a skip that is lengthened leads past the item to which it led
pub leads_past : (skips longer : List ℕ) (i p : ℕ) → p ≡ i + get_or skips i 0 → i < length skips → longer ≡ set skips i (get_or skips i 0 + 1 + get_or skips (p + 1) 0) → p < i + get_or longer i 0
leads_past skips longer i p e h q =
    let n : ℕ = get_or skips i 0 + 1 + get_or skips (p + 1) 0 in
    let s : get_or longer i 0 ≡ n = ap (λ (l : List ℕ). get_or l i 0) q ∙ get_or-set_same skips i n 0 h in
    omega (arith, e, s)

module _ {T : Type 0} (items : Work → List T) (visited : T → Work → Outcome) where
  -- the visits from place i on, one place further
  from_more : (n i : ℕ) (w : Work) → i < n → visit_from items visited (n - i) i w ≡ visit_one visited (slice_get (items w) i) (visit_from items visited (n - (i + 1)) (i + 1)) w
  from_more n i w h =
      let a : n - i ≡ suc (n - (i + 1)) = omega arith in
      let b : suc i ≡ i + 1 = omega arith in
      ap (λ (z : ℕ). visit_from items visited z i w) a ∙ ap (λ (z : ℕ). visit_one visited (slice_get (items w) i) (visit_from items visited (n - (i + 1)) z) w) b

  -- where an item stands there
  from_there : (n i : ℕ) (t : T) (w : Work) (x : Outcome) → i < n → slice_get (items w) i ≡ Some t → x ≡ visited t w → visit_from items visited (n - i) i w ≡ and_then x (visit_from items visited (n - (i + 1)) (i + 1))
  from_there n i t w x h e p =
      from_more n i w h ∙ ap (λ (q : Option T). visit_one visited q (visit_from items visited (n - (i + 1)) (i + 1)) w) e ∙ ap (λ (z : Outcome). and_then z (visit_from items visited (n - (i + 1)) (i + 1))) (sym p)

  -- an item that is visited in vain may be left out
  from_vain : (n i : ℕ) (w : Work) → i < n → InVain items visited w i → visit_from items visited (n - i) i w ≡ visit_from items visited (n - (i + 1)) (i + 1) w
  from_vain n i w h r = from_there n i r.0 w (goes w false) h r.1 (sym (r.2 w (later_refl w))) ∙ also_no (visit_from items visited (n - (i + 1)) (i + 1) w)

  from_row : (m n i j : ℕ) (w : Work) → j ≡ i + m → j < n → ((k : ℕ) → i ≤ k → k < j → InVain items visited w k) → visit_from items visited (n - i) i w ≡ visit_from items visited (n - j) j w
  from_row zero n i j w e h f = let p : i ≡ j = omega (arith, e) in ap (λ (z : ℕ). visit_from items visited (n - z) z w) p
  from_row (suc m) n i j w e h f =
      from_vain n i w (omega (arith, e, h)) (f i (omega arith) (omega (arith, e))) ∙ from_row m n (i + 1) j w (omega (arith, e)) h (λ z a b. f z (omega (arith, a)) b)

  -- and so may the items that a skip is over
  pub over_skip : (n i j : ℕ) (w : Work) (skips : List ℕ) → SkippedBy items visited w skips → i ≤ j → j ≤ i + get_or skips i 0 → j < n → visit_from items visited (n - i) i w ≡ visit_from items visited (n - j) j w
  over_skip n i j w skips h a b l = from_row (j - i) n i j w (omega (arith, a)) l (λ k x y. h i k x (omega (arith, y, b)))

  -- skips of nothing are right
  pub skips_none : (w : Work) (skips : List ℕ) → ((k : ℕ) → get_or skips k 0 ≡ 0) → SkippedBy items visited w skips
  skips_none w skips h i j a b = absurd (omega (arith, a, b, h i))

  -- what the visits from place i on come to, those from where the skip leads come to
  pub from_skip : (n i j : ℕ) (w : Work) (skips : List ℕ) (a : Bool) (o : Outcome) → SkippedBy items visited w skips → j ≡ i + get_or skips i 0 → j < n → also a (visit_from items visited (n - i) i w) ≡ o → also a (visit_from items visited (n - j) j w) ≡ o
  from_skip n i j w skips a o h e l q = sym (ap (also a) (over_skip n i j w skips h (omega (arith, e)) (omega (arith, e)) l)) ∙ q

  -- those from place 0 on are all, where nothing has changed before
  pub from_start : (n : ℕ) (w : Work) → also false (visit_from items visited (n - 0) 0 w) ≡ visit_from items visited n 0 w
  from_start n w = let e : n - 0 ≡ n = omega arith in also_no (visit_from items visited (n - 0) 0 w) ∙ ap (λ (z : ℕ). visit_from items visited z 0 w) e

  -- what the visits from place i on come to stays, after the one at i
  pub from_next : (n i : ℕ) (t : T) (w u : Work) (a c : Bool) (o : Outcome) → i < n → slice_get (items w) i ≡ Some t → goes u c ≡ visited t w → also a (visit_from items visited (n - i) i w) ≡ o
      → also (a || c) (visit_from items visited (n - (i + 1)) (i + 1) u) ≡ o
  from_next n i t w u a c o h e p q =
      sym (also_twice a c (visit_from items visited (n - (i + 1)) (i + 1) u)) ∙ sym (ap (also a) (from_there n i t w (goes u c) h e p)) ∙ q

  -- a stop at i ends them
  pub from_stop : (n i : ℕ) (t : T) (w : Work) (s : Stop) (a : Bool) (o : Outcome) → i < n → slice_get (items w) i ≡ Some t → stops s ≡ visited t w → also a (visit_from items visited (n - i) i w) ≡ o → stops s ≡ o
  from_stop n i t w s a o h e p q = sym (ap (also a) (from_there n i t w (stops s) h e p)) ∙ q

  -- past the last item there is no more to visit
  pub from_over : (n i : ℕ) (w : Work) (a : Bool) (o : Outcome) → i < n → slice_get (items w) i ≡ None → also a (visit_from items visited (n - i) i w) ≡ o → goes w a ≡ o
  from_over n i w a o h e q =
      sym (ap (also a) (from_more n i w h ∙ ap (λ (z : Option T). visit_one visited z (visit_from items visited (n - (i + 1)) (i + 1)) w) e) ∙ ap (goes w) (or_no a)) ∙ q

  -- a skip from within a list leads no further than to its end
  pub skip_within : (w : Work) (skips : List ℕ) (i : ℕ) → SkippedBy items visited w skips → i ≤ length (items w) → i + get_or skips i 0 ≤ length (items w)
  skip_within w skips i h l = by (get_or skips i 0) (λ j. h i j)
    where
      by : (n : ℕ) → ((j : ℕ) → i ≤ j → j < i + n → InVain items visited w j) → i + n ≤ length (items w)
      by zero f = omega (arith, l)
      by (suc n) f = let r = f (i + n) (omega arith) (omega arith) in omega (arith, nth_within (items w) (i + n) r.0 r.1)

  module _ (stays : (w u : Work) → Extends w u → (i : ℕ) (t : T) → slice_get (items w) i ≡ Some t → slice_get (items u) i ≡ Some t) where
    vain_later : (w u : Work) (i : ℕ) → Extends w u → InVain items visited w i → InVain items visited u i
    vain_later w u i l r = (r.0, stays w u l i r.0 r.1, λ v k. r.2 v (later_trans l k))

    -- skips that are right stay so in each later work
    pub skipped_later : (w u : Work) (skips : List ℕ) → Extends w u → SkippedBy items visited w skips → SkippedBy items visited u skips
    skipped_later w u skips l h = λ i j a b. vain_later w u j l (h i j a b)

    -- a skip may lead over the item at p to which it leads, and on from there, once that item is visited in vain; the other skips stay right
    pub skipped_longer : (i p : ℕ) (t : T) (w u : Work) (skips : List ℕ) → p ≡ i + get_or skips i 0 → i < length skips → slice_get (items w) p ≡ Some t → ((v : Work) → Extends u v → visited t v ≡ goes v false) → Extends w u
        → SkippedBy items visited w skips → SkippedBy items visited u (set skips i (get_or skips i 0 + 1 + get_or skips (p + 1) 0))
    skipped_longer i p t w u skips e h s n l m = λ k j a b.
        ⊎_elim (λ (q : k ≡ i). at_start j (omega (arith, a, q)) (subst (λ z. j < z + get_or (set skips i more) z 0) q b)) (λ (q : k ≡ i → ⊥). skipped_later w u skips l m k j a (subst (λ z. j < k + z) (get_or-set_other skips i k more 0 q) b)) (cases_eq k i)
      where
        more : ℕ
        more = get_or skips i 0 + 1 + get_or skips (p + 1) 0

        at_start : (j : ℕ) → i ≤ j → j < i + get_or (set skips i more) i 0 → InVain items visited u j
        at_start j a b =
            let c : j < i + more = subst (λ z. j < i + z) (get_or-set_same skips i more 0 h) b in
            ⊎_elim (λ (q : j ≡ p). subst (InVain items visited u) (sym q) (t, stays w u l p t s, n))
            (⊎_elim (λ (q : j < p). skipped_later w u skips l m i j a (omega (arith, q, e))) (λ (q : p < j). skipped_later w u skips l m (p + 1) j (omega (arith, q)) (omega (arith, c, e))))
            (cases_order j p)
