-- What reading and writing the rows of a board means.
use Rattle.std.proofs.Common.{◌≡◌, ℕ, zero, suc, ◌+◌, ◌<◌, ◌≤◌, Bool, true, false, cond, ◌&&◌, eqb, ltb, leb, ◌⊎◌, List, [], ◌∷◌, ◌++◌, map, length, get_or, set, Some, None, sym, refl, ap, ◌∙◌, subst, ⊎_elim, add-one, arith}
use mathlib.Core.Path.{fun_ext}
use mathlib.Core.List.{map-append}
use lib.ListN.{length-map}
use lib.Seq.{map-set_same}
use Rattle.std.specs.List.{position, position_from}
use Rattle.std.proofs.lemmas.Iterator.Adapters.{position_from-zero}
use Rattle.std.proofs.lemmas.List.Quantifiers.{position-Some}
use Rattle.std.proofs.lemmas.Option.{none-some}
use Rattle.std.proofs.lemmas.List.{get_or_read_under}
use Rattle.std.proofs.lemmas.Bool.{cond-true, cond-false, eqb-true, eq-eqb, true≢false, false_from_ne_true, leb-true, ltb-true, le-leb, lt-ltb, le-ltb, and_parts, and_from, and_left, and_right}
use Rattle.value.specs.declared.end.End.{End}
use Rattle.value.specs.declared.end.End.TheVariants.{Unknown}
use Rattle.meaning.specs.declared.duties.Opening.{Opening}
use Rattle.meaning.specs.declared.duties.Duty.{Duty}
use Rattle.meaning.specs.declared.duties.Stop.TheVariants.{Crowded}
use Rattle.meaning.specs.Work.{set_at, plain, stops, goes, has_opened}
use Rattle.meaning.specs.Effects.{with_end, with_span, open_span}
use Rattle.meaning.specs.WellFormed.{◌∈◌, here, there, Present}
use Rattle.board.specs.declared.row.Row.{Row}
use Rattle.board.specs.Store.{span_of, has_serial, ends_of, Store, work, rising}

-- what stands for a row that is not there
abbrev pub no_row : Row
no_row = record { span = record { serial = 0; opening = None; fresh = false }; end = Unknown }

-- the row at place i has the serial s
abbrev pub HasSerial : List Row → ℕ → ℕ → Type 0
HasSerial l i s = (i < length l) × ((get_or l i no_row).span.serial ≡ s)

-- a row with another end
abbrev pub ended_by : Row → End → Row
ended_by r e = record { span = r.span; end = e }

-- serials that rise, as spans are opened
pub data Rising : ℕ → List Row → Type 0 where
  rising_nil : {n : ℕ} → Rising n []
  rising_cons : {n : ℕ} {r : Row} {l : List Row} → n ≤ r.span.serial → Rising (suc r.span.serial) l → Rising n (r ∷ l)

pub rising_of : (low : ℕ) (l : List Row) (high : ℕ) → rising low l high ≡ true → Rising low l
rising_of low [] high e = rising_nil
rising_of low (r ∷ l) high e = let p = and_parts (leb low r.span.serial) (rising (suc r.span.serial) l high) e in rising_cons (leb-true low r.span.serial p.0) (rising_of (suc r.span.serial) l high p.1)

rising_at : {n : ℕ} {l : List Row} → Rising n l → (i : ℕ) → i < length l → n ≤ (get_or l i no_row).span.serial
rising_at rising_nil i h = absurd (omega arith)
rising_at (rising_cons a t) zero h = a
rising_at (rising_cons a t) (suc i) h = let b = rising_at t i (omega arith) in omega arith

-- an end that is written is the one that is put
put_ends : {n : ℕ} {l : List Row} → Rising n l → (i : ℕ) (e : End) → i < length l → (t : ℕ) → ends_of (set l i (ended_by (get_or l i no_row) e)) t ≡ set_at (ends_of l) (get_or l i no_row).span.serial e t
put_ends rising_nil i e h t = absurd (omega arith)
put_ends (rising_cons {r = r} {l = l} a k) zero e h t = by (eqb r.span.serial t)
  where
    by : (b : Bool) → cond b e (ends_of l t) ≡ cond b e (cond b r.end (ends_of l t))
    by true = refl
    by false = refl
put_ends (rising_cons {r = r} {l = l} a k) (suc i) e h t = by (eqb r.span.serial t) (eqb (get_or l i no_row).span.serial t) refl refl (put_ends k i e (omega arith) t)
  where
    by : (b c : Bool) → eqb r.span.serial t ≡ b → eqb (get_or l i no_row).span.serial t ≡ c → ends_of (set l i (ended_by (get_or l i no_row) e)) t ≡ cond c e (ends_of l t)
        → cond b r.end (ends_of (set l i (ended_by (get_or l i no_row) e)) t) ≡ cond c e (cond b r.end (ends_of l t))
    by true true p q ih = absurd (omega (arith, rising_at k i (omega arith), eqb-true r.span.serial t p, eqb-true (get_or l i no_row).span.serial t q))
    by true false p q ih = refl
    by false c p q ih = ih

same_write : (l : List Row) (i n : ℕ) (r : Row) (e : End) → r ≡ get_or l i r → i < n → n ≡ length l → set l i (ended_by r e) ≡ set l i (ended_by (get_or l i no_row) e)
same_write l i n r e p h k = ap (λ (x : Row). set l i (ended_by x e)) (get_or_read_under l i n r no_row p h k)

rising-set : (low : ℕ) (l : List Row) (high i : ℕ) (e : End) → i < length l → rising low (set l i (ended_by (get_or l i no_row) e)) high ≡ rising low l high
rising-set low [] high i e h = absurd (omega arith)
rising-set low (r ∷ l) high zero e h = refl
rising-set low (r ∷ l) high (suc i) e h = ap (λ z. leb low r.span.serial && z) (rising-set (suc r.span.serial) l high i e (omega arith))

pub write_rising : (l : List Row) (i n high : ℕ) (r : Row) (e : End) → r ≡ get_or l i r → i < n → n ≡ length l → rising 0 l high ≡ true → rising 0 (set l i (ended_by r e)) high ≡ true
write_rising l i n high r e p h k b = ap (λ (x : List Row). rising 0 x high) (same_write l i n r e p h k) ∙ rising-set 0 l high i e (omega arith) ∙ b

pub write_means : (m : Store) (i n s : ℕ) (r : Row) (e : End) → r ≡ get_or m.rows i r → n ≡ length m.rows → HasSerial m.rows i s → rising 0 m.rows m.next ≡ true
    → work (record { values = m.values; rows = set m.rows i (ended_by r e); duties = m.duties; later = m.later; next = m.next }) ≡ with_end e s (work m)
write_means m i n s r e p k q b =
    ap (λ (x : List Row). work (record { values = m.values; rows = x; duties = m.duties; later = m.later; next = m.next })) (same_write m.rows i n r e p (omega (arith, q.0)) k)
    ∙ (λ j. record {
      known = λ x. get_or m.values x None;
      ends = fun_ext (put_ends (rising_of 0 m.rows m.next b) i e q.0) j;
      spans = map-set_same span_of m.rows i (ended_by (get_or m.rows i no_row) e) no_row refl j;
      duties = m.duties;
      later = m.later;
      next = m.next;
    })
    ∙ ap (λ (x : ℕ). with_end e x (work m)) q.1

-- a span that runs has a place
present_past : (r : Row) (l : List Row) (s : ℕ) → (r.span.serial ≡ s → ⊥) → Present (map span_of (r ∷ l)) s → Present (map span_of l) s
present_past r l s n h = by h.inside
  where
    by : h.span ∈ (r.span ∷ map span_of l) → Present (map span_of l) s
    by (here e) = absurd (n (sym (ap (λ t. t.serial) e) ∙ h.named))
    by (there q) = record { span = h.span; inside = q; named = h.named }

present_none : (s : ℕ) → Present [] s → ⊥
present_none s h = elim h.inside [ ]

pub placed_serial : (l : List Row) (s i : ℕ) → position (has_serial s) l ≡ Some i → HasSerial l i s
placed_serial l s i p = let f = position-Some (has_serial s) l i no_row p in (f.0, eqb-true (get_or l i no_row).span.serial s f.1)

-- since serials rise, the row with the serial is the one that a search finds, and has the end of the span
later_serial : {n : ℕ} {l : List Row} → Rising (suc n) l → (i s : ℕ) → HasSerial l i s → eqb n s ≡ false
later_serial {n} {l} t i s h = false_from_ne_true (eqb n s) (λ p. absurd (omega (arith, rising_at t i h.0, h.1, eqb-true n s p)))

found_from : {n : ℕ} {l : List Row} → Rising n l → (i s k : ℕ) → HasSerial l i s → position_from (has_serial s) k l ≡ Some (k + i)
found_from rising_nil i s k h = absurd (omega (arith, h.0))
found_from (rising_cons {r = r} {l = l} a t) zero s k h =
    cond-true (eqb r.span.serial s) (Some k) (position_from (has_serial s) (k + 1) l) (eq-eqb r.span.serial s h.1) ∙ ap Some (omega arith)
found_from (rising_cons {r = r} {l = l} a t) (suc i) s k h =
    let q : HasSerial l i s = (omega (arith, h.0), h.1) in
    cond-false (eqb r.span.serial s) (Some k) (position_from (has_serial s) (k + 1) l) (later_serial t i s q) ∙ found_from t i s (k + 1) q ∙ ap Some (omega arith)

found_serial : (l : List Row) (high i s : ℕ) → rising 0 l high ≡ true → HasSerial l i s → position (has_serial s) l ≡ Some i
found_serial l high i s o h = position_from-zero (has_serial s) l ∙ found_from (rising_of 0 l high o) i s 0 h ∙ ap Some (omega arith)

-- so is the row at a place that is read, if it has the serial
pub found_hint : (l k : List Row) (high i s : ℕ) (r : Row) → rising 0 l high ≡ true → k ≡ l → true ≡ ltb i (length k) → r ≡ get_or k i r → r.span.serial ≡ s → Some i ≡ position (has_serial s) l
found_hint l k high i s r o p h e q =
    let b : i < length k = ltb-true i (length k) (sym h) in
    let n : length k ≡ length l = ap length p in
    let x : r ≡ get_or l i no_row = get_or_read_under k i (length k) r no_row e b refl ∙ ap (λ (z : List Row). get_or z i no_row) p in
    sym (found_serial l high i s o (omega arith, ap (λ (z : Row). z.span.serial) (sym x) ∙ q))

end_of_row : {n : ℕ} {l : List Row} → Rising n l → (i s : ℕ) → HasSerial l i s → (get_or l i no_row).end ≡ ends_of l s
end_of_row rising_nil i s h = absurd (omega (arith, h.0))
end_of_row (rising_cons {r = r} {l = l} a t) zero s h = sym (cond-true (eqb r.span.serial s) r.end (ends_of l s) (eq-eqb r.span.serial s h.1))
end_of_row (rising_cons {r = r} {l = l} a t) (suc i) s h =
    let q : HasSerial l i s = (omega (arith, h.0), h.1) in
    end_of_row t i s q ∙ sym (cond-false (eqb r.span.serial s) r.end (ends_of l s) (later_serial t i s q))

pub end_at : (l : List Row) (i n s high : ℕ) (r : Row) → r ≡ get_or l i r → i < n → n ≡ length l → rising 0 l high ≡ true → position (has_serial s) l ≡ Some i → r.end ≡ ends_of l s
end_at l i n s high r p h k o f = ap (λ (x : Row). x.end) (get_or_read_under l i n r no_row p h k) ∙ end_of_row (rising_of 0 l high o) i s (placed_serial l s i f)

-- where the search finds no row, nothing is known of the end
unknown_from : (l : List Row) (s k : ℕ) → position_from (has_serial s) k l ≡ None → Unknown ≡ ends_of l s
unknown_from [] s k p = refl
unknown_from (r ∷ l) s k p = by (eqb r.span.serial s) p (unknown_from l s (k + 1))
  where
    by : (b : Bool) → cond b (Some k) (position_from (has_serial s) (k + 1) l) ≡ None → (position_from (has_serial s) (k + 1) l ≡ None → Unknown ≡ ends_of l s) → Unknown ≡ cond b r.end (ends_of l s)
    by true p ih = absurd (none-some k (sym p))
    by false p ih = ih p

pub unknown_end : (l : List Row) (s : ℕ) → position (has_serial s) l ≡ None → Unknown ≡ ends_of l s
unknown_end l s p = unknown_from l s 0 (sym (position_from-zero (has_serial s) l) ∙ p)

none_from : (l : List Row) (s k : ℕ) → position_from (has_serial s) k l ≡ None → Present (map span_of l) s → ⊥
none_from [] s k p h = present_none s h
none_from (r ∷ l) s k p h = by (eqb r.span.serial s) refl p (none_from l s (k + 1))
  where
    by : (b : Bool) → eqb r.span.serial s ≡ b → cond b (Some k) (position_from (has_serial s) (k + 1) l) ≡ None
        → (position_from (has_serial s) (k + 1) l ≡ None → Present (map span_of l) s → ⊥) → ⊥
    by true e p ih = none-some k (sym p)
    by false e p ih = ih p (present_past r l s (λ q. true≢false (sym (eq-eqb r.span.serial s q) ∙ e)) h)

-- where the search finds none, no such span runs
pub unplaced : (l : List Row) (s : ℕ) → position (has_serial s) l ≡ None → Present (map span_of l) s → ⊥
unplaced l s p = none_from l s 0 (sym (position_from-zero (has_serial s) l) ∙ p)

-- a new row
abbrev pub new_row : Opening → ℕ → Row
new_row g s = record { span = record { serial = s; opening = Some g; fresh = true }; end = g.starts }

rising_le : (low : ℕ) (l : List Row) (high : ℕ) → rising low l high ≡ true → low ≤ high
rising_le low [] high e = leb-true low high e
rising_le low (r ∷ l) high e =
    let p = and_parts (leb low r.span.serial) (rising (suc r.span.serial) l high) e in
    omega (arith, leb-true low r.span.serial p.0, rising_le (suc r.span.serial) l high p.1)

pub rising_below : (low : ℕ) (l : List Row) (high : ℕ) → rising low l high ≡ true → (x : Row) → x ∈ l → x.span.serial < high
rising_below low [] high e x q = elim q [ ]
rising_below low (r ∷ l) high e x (here p) =
    let a = and_parts (leb low r.span.serial) (rising (suc r.span.serial) l high) e in
    subst (λ z. z.span.serial < high) (sym p) (rising_le (suc r.span.serial) l high a.1)
rising_below low (r ∷ l) high e x (there q) = rising_below (suc r.span.serial) l high (and_parts (leb low r.span.serial) (rising (suc r.span.serial) l high) e).1 x q

pub rising-push : (low : ℕ) (l : List Row) (high : ℕ) (r : Row) → r.span.serial ≡ high → rising low l high ≡ true → rising low (l ++ (r ∷ [])) (high + 1) ≡ true
rising-push low [] high r p e =
    and_from (leb low r.span.serial) (leb (suc r.span.serial) (high + 1)) (le-leb low r.span.serial (omega (arith, leb-true low high e))) (le-leb (suc r.span.serial) (high + 1) (omega arith))
rising-push low (x ∷ l) high r p e =
    let a = and_parts (leb low x.span.serial) (rising (suc x.span.serial) l high) e in
    and_from (leb low x.span.serial) (rising (suc x.span.serial) (l ++ (r ∷ [])) (high + 1)) a.0 (rising-push (suc x.span.serial) l high r p a.1)

push_ends : (l : List Row) (s : ℕ) (r : Row) → r.span.serial ≡ s → ((x : Row) → x ∈ l → x.span.serial < s) → (t : ℕ) → ends_of (l ++ (r ∷ [])) t ≡ set_at (ends_of l) r.span.serial r.end t
push_ends [] s r e h t = refl
push_ends (x ∷ l) s r e h t = by (eqb x.span.serial t) (eqb r.span.serial t) refl refl (push_ends l s r e (λ y q. h y (there q)) t)
  where
    by : (b c : Bool) → eqb x.span.serial t ≡ b → eqb r.span.serial t ≡ c → ends_of (l ++ (r ∷ [])) t ≡ cond c r.end (ends_of l t)
        → cond b x.end (ends_of (l ++ (r ∷ [])) t) ≡ cond c r.end (cond b x.end (ends_of l t))
    by true true p q ih = absurd (omega (arith, h x (here refl), eqb-true x.span.serial t p, eqb-true r.span.serial t q))
    by true false p q ih = refl
    by false c p q ih = ih

pub push_means : (m : Store) (g : Opening) (l : List Row) (ds : List Duty) → rising 0 m.rows m.next ≡ true → l ≡ m.rows ++ (new_row g m.next ∷ []) → ds ≡ m.duties ++ (plain g.body m.next ∷ [])
    → work (record { values = m.values; rows = l; duties = ds; later = m.later; next = m.next + 1 }) ≡ with_span g (work m)
push_means m g l ds b e d =
    ap (λ (x : List Row). work (record { values = m.values; rows = x; duties = ds; later = m.later; next = m.next + 1 })) e
    ∙ ap (λ (x : List Duty). work (record { values = m.values; rows = m.rows ++ (new_row g m.next ∷ []); duties = x; later = m.later; next = m.next + 1 })) d
    ∙ (λ j. record {
      known = λ x. get_or m.values x None;
      ends = fun_ext (push_ends m.rows m.next (new_row g m.next) refl (rising_below 0 m.rows m.next b)) j;
      spans = map-append span_of m.rows (new_row g m.next ∷ []) j;
      duties = m.duties ++ (plain g.body m.next ∷ []);
      later = m.later;
      next = add-one m.next j;
    })

-- a span that is opened, or for which there is no room
pub open_full : (m : Store) (g : Opening) → has_opened g (map span_of m.rows) ≡ false → (64 ≤ length m.rows) ⊎ (512 ≤ length m.duties) → stops Crowded ≡ open_span g (work m)
open_full m g e h =
    sym (cond-false (has_opened g (map span_of m.rows)) _ _ e ∙ cond-false (ltb (length (map span_of m.rows)) 64 && ltb (length m.duties) 512) _ _
    (⊎_elim (λ (p : 64 ≤ length m.rows). and_left (ltb (length (map span_of m.rows)) 64) (ltb (length m.duties) 512) (le-ltb (length (map span_of m.rows)) 64 (rw length-map p)))
    (λ (p : 512 ≤ length m.duties). and_right (ltb (length (map span_of m.rows)) 64) (ltb (length m.duties) 512) (le-ltb (length m.duties) 512 p)) h))

pub open_new : (m : Store) (g : Opening) → has_opened g (map span_of m.rows) ≡ false → length m.rows < 64 → length m.duties < 512 → goes (with_span g (work m)) true ≡ open_span g (work m)
open_new m g e p q =
    sym (cond-false (has_opened g (map span_of m.rows)) _ _ e ∙ cond-true (ltb (length (map span_of m.rows)) 64 && ltb (length m.duties) 512) _ _
    (and_from (ltb (length (map span_of m.rows)) 64) (ltb (length m.duties) 512) (lt-ltb (length (map span_of m.rows)) 64 (rw length-map p)) (lt-ltb (length m.duties) 512 q)))
