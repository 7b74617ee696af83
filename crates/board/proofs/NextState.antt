-- What going on to the next state means, row by row.
use Rattle.std.proofs.Common.{◌≡◌, ℕ, zero, suc, ◌≤◌, Bool, true, false, cond, eqb, leb, List, [], ◌∷◌, map, get_or, replicate, ℤ, None, Option, sym, refl, ap, ◌∙◌, subst, arith}
use mathlib.Core.Path.{fun_ext}
use Rattle.std.specs.List.Retain.{RetainsInTurn}
use Rattle.value.specs.contracts.end.EndPartialEq.TheImpl as EndEq
use Rattle.std.proofs.lemmas.Bool.{cond_both, cond-true, eqb-true, eq-eqb, leb-true, le-leb, and_parts, and_from}
use Rattle.value.specs.declared.end.End.{End}
use Rattle.value.specs.declared.end.End.TheVariants.{Unknown, On, Last}
use Rattle.meaning.specs.declared.duties.Duty.{Duty}
use Rattle.meaning.specs.Work.{plain}
use Rattle.meaning.specs.WellFormed.{◌∈◌, here, there}
use Rattle.meaning.specs.Runs.{begun, kept_by, going_on, first_work, next_work}
use Rattle.board.specs.declared.row.Row.{Row}
use Rattle.board.specs.Store.{span_of, ends_of, Store, work, rising, kept_row, kept_rows}
use Rattle.board.proofs.Rows.{no_row, Rising, rising_nil, rising_cons, rising_of}

-- a row as it is kept
abbrev pub kept : Row → Row
kept r = record { span = record { serial = r.span.serial; opening = r.span.opening; fresh = false }; end = Unknown }

by_end : (c : End) (r : Row) (l : List Row) → cond (EndEq.eq-value.it c On) (kept r ∷ l) l ≡ kept_row c r l
by_end Unknown r l = refl
by_end On r l = refl
by_end Last r l = refl

-- rows that are asked in turn whether they go on, and are left as the next state starts with them
pub kept_in_turn : {S : Type 0} (R : S → Row → Bool → S → Row → Type 0)
    → ((s : S) (x : Row) (b : Bool) (t : S) (y : Row) → R s x b t y → (b ≡ EndEq.eq-value.it x.end On) × (y ≡ kept x))
    → (s : S) (xs ys : List Row) → RetainsInTurn R s xs ys → ys ≡ kept_rows xs
kept_in_turn R h s [] ys p = p
kept_in_turn R h s (x ∷ xs) ys p =
    let k = h s x p.0 p.1 p.2 p.3 in
    p.6 ∙ (λ i. cond (k.0 i) (k.1 i ∷ kept_in_turn R h p.1 xs p.4 p.5 i) (kept_in_turn R h p.1 xs p.4 p.5 i)) ∙ by_end x.end x (kept_rows xs)

-- each row has the end that the rows tell of its serial
rising_in : {n : ℕ} {l : List Row} → Rising n l → (r : Row) → r ∈ l → n ≤ r.span.serial
rising_in rising_nil r q = elim q [ ]
rising_in {n} (rising_cons a t) r (here e) = subst (λ x. n ≤ x.span.serial) (sym e) a
rising_in (rising_cons a t) r (there q) = omega (arith, rising_in t r q)

pub own_end : {n : ℕ} {l : List Row} → Rising n l → (r : Row) → r ∈ l → ends_of l r.span.serial ≡ r.end
own_end rising_nil r q = elim q [ ]
own_end (rising_cons {r = x} {l = l} a t) r (here e) =
    subst (λ z. cond (eqb x.span.serial z.span.serial) x.end (ends_of l z.span.serial) ≡ z.end) (sym e)
    (cond-true (eqb x.span.serial x.span.serial) x.end (ends_of l x.span.serial) (eq-eqb x.span.serial x.span.serial refl))
own_end (rising_cons {r = x} {l = l} a t) r (there q) =
    cond_both (eqb x.span.serial r.span.serial) x.end (ends_of l r.span.serial) (λ z. z ≡ r.end)
    (λ p. absurd (omega (arith, rising_in t r q, eqb-true x.span.serial r.span.serial p))) (λ p. own_end t r q)

map-keep : (c : End) (r : Row) (l : List Row) → map span_of (kept_row c r l) ≡ kept_by c r.span (map span_of l)
map-keep Unknown r l = refl
map-keep On r l = refl
map-keep Last r l = refl

map-kept : (e : ℕ → End) (l : List Row) → ((r : Row) → r ∈ l → e r.span.serial ≡ r.end) → map span_of (kept_rows l) ≡ going_on e (map span_of l)
map-kept e [] h = refl
map-kept e (r ∷ l) h =
    map-keep r.end r (kept_rows l) ∙ ap (kept_by r.end r.span) (map-kept e l (λ x q. h x (there q))) ∙ ap (λ c. kept_by c r.span (going_on e (map span_of l))) (sym (h r (here refl)))

kept_unknown : (l : List Row) (t : ℕ) → ends_of (kept_rows l) t ≡ Unknown
kept_unknown [] t = refl
kept_unknown (r ∷ l) t = by r.end (kept_unknown l t)
  where
    by : (c : End) → ends_of (kept_rows l) t ≡ Unknown → ends_of (kept_row c r (kept_rows l)) t ≡ Unknown
    by Unknown ih = ih
    by On ih = cond_both (eqb r.span.serial t) Unknown (ends_of (kept_rows l) t) (λ z. z ≡ Unknown) (λ p. refl) (λ p. ih)
    by Last ih = ih

abbrev nothing : Option ℤ
nothing = None

pub none_known : (n x : ℕ) → get_or (replicate n nothing) x nothing ≡ nothing
none_known zero x = refl
none_known (suc n) zero = refl
none_known (suc n) (suc x) = none_known n x

pub turn_means : (m : Store) (values : List (Option ℤ)) (rows : List Row) (ds ls : List Duty) → rising 0 m.rows m.next ≡ true → values ≡ replicate 16 None → rows ≡ kept_rows m.rows → ds ≡ m.later → ls ≡ []
    → work (record { values = values; rows = rows; duties = ds; later = ls; next = m.next }) ≡ next_work (work m)
turn_means m values rows ds ls o v a b c =
    ap (λ (x : List (Option ℤ)). work (record { values = x; rows = rows; duties = ds; later = ls; next = m.next })) v
    ∙ ap (λ (x : List Row). work (record { values = replicate 16 None; rows = x; duties = ds; later = ls; next = m.next })) a
    ∙ ap (λ (x : List Duty). work (record { values = replicate 16 None; rows = kept_rows m.rows; duties = x; later = ls; next = m.next })) b
    ∙ ap (λ (x : List Duty). work (record { values = replicate 16 None; rows = kept_rows m.rows; duties = m.later; later = x; next = m.next })) c
    ∙ (λ j. record {
      known = fun_ext (none_known 16) j;
      ends = fun_ext (kept_unknown m.rows) j;
      spans = map-kept (ends_of m.rows) m.rows (own_end (rising_of 0 m.rows m.next o)) j;
      duties = m.later;
      later = [];
      next = m.next;
    })

only_unknown : (t : ℕ) → ends_of (no_row ∷ []) t ≡ Unknown
only_unknown t = cond_both (eqb 0 t) Unknown Unknown (λ z. z ≡ Unknown) (λ p. refl) (λ p. refl)

pub begin_means : (p : ℕ) (values : List (Option ℤ)) (rows : List Row) (ds ls : List Duty) → values ≡ replicate 16 None → rows ≡ no_row ∷ [] → ds ≡ plain p 0 ∷ [] → ls ≡ []
    → work (record { values = values; rows = rows; duties = ds; later = ls; next = 1 }) ≡ first_work p
begin_means p values rows ds ls v a b c =
    ap (λ (x : List (Option ℤ)). work (record { values = x; rows = rows; duties = ds; later = ls; next = 1 })) v
    ∙ ap (λ (x : List Row). work (record { values = replicate 16 None; rows = x; duties = ds; later = ls; next = 1 })) a
    ∙ ap (λ (x : List Duty). work (record { values = replicate 16 None; rows = no_row ∷ []; duties = x; later = ls; next = 1 })) b
    ∙ ap (λ (x : List Duty). work (record { values = replicate 16 None; rows = no_row ∷ []; duties = plain p 0 ∷ []; later = x; next = 1 })) c
    ∙ (λ j. record { known = fun_ext (none_known 16) j; ends = fun_ext only_unknown j; spans = span_of no_row ∷ []; duties = plain p 0 ∷ []; later = []; next = 1 })

rising-lower : (low high : ℕ) (l : List Row) (m : ℕ) → m ≤ low → rising low l high ≡ true → rising m l high ≡ true
rising-lower low high [] m h e = le-leb m high (omega (arith, leb-true low high e))
rising-lower low high (r ∷ l) m h e =
    let a = and_parts (leb low r.span.serial) (rising (suc r.span.serial) l high) e in
    and_from (leb m r.span.serial) (rising (suc r.span.serial) l high) (le-leb m r.span.serial (omega (arith, leb-true low r.span.serial a.0))) a.1

pub rising-kept : (low : ℕ) (l : List Row) (high : ℕ) → rising low l high ≡ true → rising low (kept_rows l) high ≡ true
rising-kept low [] high e = e
rising-kept low (r ∷ l) high e = by r.end (and_parts (leb low r.span.serial) (rising (suc r.span.serial) l high) e).0 (rising-kept (suc r.span.serial) l high (and_parts (leb low r.span.serial) (rising (suc r.span.serial) l high) e).1)
  where
    by : (c : End) → leb low r.span.serial ≡ true → rising (suc r.span.serial) (kept_rows l) high ≡ true → rising low (kept_row c r (kept_rows l)) high ≡ true
    by Unknown a ih = rising-lower (suc r.span.serial) high (kept_rows l) low (omega (arith, leb-true low r.span.serial a)) ih
    by On a ih = and_from (leb low r.span.serial) (rising (suc r.span.serial) (kept_rows l) high) a ih
    by Last a ih = rising-lower (suc r.span.serial) high (kept_rows l) low (omega (arith, leb-true low r.span.serial a)) ih

pub new_means : (rows : List Row) (ds ls : List Duty) → rows ≡ [] → ds ≡ [] → ls ≡ [] → work (record { values = replicate 16 None; rows = rows; duties = ds; later = ls; next = 0 }) ≡ begun [] [] 0
new_means rows ds ls a b c =
    ap (λ (x : List Row). work (record { values = replicate 16 None; rows = x; duties = ds; later = ls; next = 0 })) a
    ∙ ap (λ (x : List Duty). work (record { values = replicate 16 None; rows = []; duties = x; later = ls; next = 0 })) b
    ∙ ap (λ (x : List Duty). work (record { values = replicate 16 None; rows = []; duties = []; later = x; next = 0 })) c
    ∙ (λ j. record { known = fun_ext (none_known 16) j; ends = λ t. Unknown; spans = []; duties = []; later = []; next = 0 })
