-- What a settled state comes to, and that its numbers may be recorded.
use Rattle.std.proofs.Common.{◌≡◌, ℕ, zero, suc, ◌+◌, ◌<◌, ◌≤◌, Bool, true, false, cond, ◌&&◌, List, map, take, ℤ, pos, Some, None, Option, Ok, Err, Result, IfOk, unwrap_or, unsigned_abs, sym, refl, ap, ◌∙◌, arith}
use lib.Signed.{le_z}
use Rattle.std.specs.List.{list_all, range_with_len}
use Rattle.std.proofs.lemmas.Int.{ints}
use Rattle.std.proofs.lemmas.Bool.{and_parts, and_from, leb-true, le-leb}
use Rattle.std.proofs.lemmas.List.FromFn.{take-map-range_with_len}
use Rattle.sheet.specs.declared.elements.Variable.{Variable}
use Rattle.sheet.specs.Content.{variable_at}
use Rattle.sheet.specs.Limits.{Limits, within_million, variable_ok}
use Rattle.value.specs.declared.end.End.{End}
use Rattle.value.specs.declared.end.End.TheVariants.{Unknown, On, Last}
use Rattle.value.specs.contracts.end.EndPartialEq.TheImpl as EndEq
use Rattle.value.specs.Values.{in_range}
use Rattle.meaning.specs.declared.duties.LeftOpen.{LeftOpen}
use Rattle.meaning.specs.declared.duties.Stop.{Stop}
use Rattle.meaning.specs.Intervals.{Setting, width}
use Rattle.meaning.specs.Work.{Work}
use Rattle.meaning.specs.WellFormed.{FitSays}
use Rattle.meaning.specs.Runs.{next_work, left_open, state_of, Step, recorded, finished, closed_by, judged_by}
use Rattle.meaning.proofs.SettledStates.{state_in}
use Rattle.record.specs.Rules.{small, all_small}
use Rattle.settling.specs.declared.settled.SettledState.{SettledState}
use Rattle.settling.specs.Stepped.{stepped}

-- a number in a range that may be written down is small
small_between : (a b z : ℤ) → within_million a ≡ true → within_million b ≡ true → (le_z a z && le_z z b) ≡ true → small z ≡ true
small_between a b z p q e =
    let x = and_parts (le_z a z) (le_z z b) e in
    let s = x.0 in
    let t = x.1 in
    let f : unsigned_abs a ≤ 1000000 = leb-true (unsigned_abs a) 1000000 p in
    let g : unsigned_abs b ≤ 1000000 = leb-true (unsigned_abs b) 1000000 q in
    le-leb (unsigned_abs z) 1000000 (grind (arith, ints))

-- so is one in the range of a variable
small_ranged : (before : List Variable) (v : Variable) (z : ℤ) → variable_ok before v ≡ true → in_range v z ≡ true → small z ≡ true
small_ranged before v z h e =
    let a = and_parts _ _ h in
    let b = and_parts _ _ a.1 in
    let c = and_parts (within_million v.low) _ b.1 in
    small_between v.low v.high z c.0 (and_parts (within_million v.high) _ c.1).0 e

-- so is a number that is known, and 0 for one that is not
small_known : (S : Setting) → Limits S.sheet → (x : ℕ) → x < width S → (o : Option ℤ) → FitSays S x o → small (unwrap_or o (pos 0)) ≡ true
small_known S L x h None f = refl
small_known S L x h (Some v) f = small_ranged (take x S.sheet.variables) (variable_at S.sheet.variables x) v (L.variables x h) f

-- numbers that a function gives are small where each is
small_each : (f : ℕ → ℤ) (y n : ℕ) → ((x : ℕ) → y ≤ x → x < y + n → small (f x) ≡ true) → list_all small (map f (range_with_len y n)) ≡ true
small_each f y zero h = refl
small_each f y (suc n) h = and_from (small (f y)) (list_all small (map f (range_with_len (y + 1) n))) (h y (omega arith) (omega arith)) (small_each f (y + 1) n (λ x a b. h x (omega arith) (omega arith)))

-- the numbers of a settled state may be recorded
pub numbers_small : (S : Setting) → Limits S.sheet → (w : Work) → ((x : ℕ) → FitSays S x (w.known x)) → all_small (state_of (width S) w) ≡ true
numbers_small S L w f = small_each (λ x. unwrap_or (w.known x) (pos 0)) 0 (width S) (λ x a b. small_known S L x (omega arith) (w.known x) (f x))

-- the state that a step records, by its last
step_state : (b : Bool) (l : List ℤ) (u : Work) → state_in (cond b (finished l) (recorded l u)) ≡ l
step_state true l u = refl
step_state false l u = refl

-- the numbers of what a state comes to are small, by its end
closed_small : (c : End) (n : ℕ) (w : Work) → all_small (state_of n w) ≡ true → all_small (state_in (closed_by c n w)) ≡ true
closed_small Unknown n w h = refl
closed_small On n w h = h
closed_small Last n w h = h

-- and by what it leaves open
judged_small : (o : Option LeftOpen) (n : ℕ) (w : Work) → all_small (state_of n w) ≡ true → all_small (state_in (judged_by o n w)) ≡ true
judged_small None n w h = closed_small (w.ends 0) n w h
judged_small (Some x) n w h = refl

-- so an answer's numbers may be recorded
pub answer_small : (n : ℕ) (r : Result SettledState Stop) (u w : Work) → stepped n r u ≡ judged_by (left_open n w) n w → all_small (state_of n w) ≡ true → IfOk r (λ x. all_small (take n x.numbers) ≡ true)
answer_small n (Ok x) u w e h =
    ap all_small (sym (step_state x.last (take n x.numbers) u)) ∙ ap (λ (s : Step). all_small (state_in s)) e ∙ judged_small (left_open n w) n w h
answer_small n (Err s) u w e h = tt

-- an answer by the end, where it is known
closed_end : (c : End) (n : ℕ) (w : Work) → (c ≡ Unknown → ⊥) → cond (EndEq.eq-value.it c Last) (finished (state_of n w)) (recorded (state_of n w) (next_work w)) ≡ closed_by c n w
closed_end Unknown n w h = absurd (h refl)
closed_end On n w h = refl
closed_end Last n w h = refl

-- an answer of a state that leaves nothing open, by the known end of the whole interval
pub judged_end : (n : ℕ) (w : Work) (l : List ℤ) (c : End) (b : Bool) → n ≤ 16 → l ≡ state_of 16 w → c ≡ w.ends 0 → (c ≡ Unknown → ⊥) → b ≡ EndEq.eq-value.it c Last → None ≡ left_open n w
    → stepped n (Ok (record { numbers = l; last = b })) (next_work w) ≡ judged_by (left_open n w) n w
judged_end n w l c b h e p k q o =
    ap (λ (z : List ℤ). cond b (finished (take n z)) (recorded (take n z) (next_work w))) e
    ∙ ap (λ (z : List ℤ). cond b (finished z) (recorded z (next_work w))) (take-map-range_with_len (λ x. unwrap_or (w.known x) (pos 0)) 0 16 n h)
    ∙ ap (λ (z : Bool). cond z (finished (state_of n w)) (recorded (state_of n w) (next_work w))) q
    ∙ closed_end c n w k
    ∙ ap (λ (z : End). closed_by z n w) p
    ∙ ap (λ (z : Option LeftOpen). judged_by z n w) o
