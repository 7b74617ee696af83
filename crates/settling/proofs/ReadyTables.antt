-- Tables that are ready are a work in order, and those of each state that begins are ready.
use Rattle.std.proofs.Common.{◌≡◌, ℕ, zero, suc, ◌<◌, Bool, true, false, not, ◌&&◌, eqb, ltb, List, [], ◌∷◌, map, length, get_or, is_none, ℤ, Some, None, Option, sym, refl, ap, ◌∙◌, subst, ⊎_elim, arith}
use Rattle.std.specs.List.{list_all, list_any}
use Rattle.std.proofs.lemmas.Bool.{false≢true, both_ways, not-true, not_from_false, ltb-true, lt-ltb, eqb-true, eq-eqb, and_parts, and_from, or_cases, or_left, or_right}
use Rattle.sheet.specs.Tables.{first_sheet}
use Rattle.sheet.specs.Limits.{Limits}
use Rattle.meaning.specs.declared.duties.Duty.{Duty}
use Rattle.meaning.specs.declared.duties.Opening.{Opening}
use Rattle.meaning.specs.declared.duties.Span.{Span}
use Rattle.meaning.specs.Intervals.{Setting, under}
use Rattle.meaning.specs.Work.{Work, goes}
use Rattle.meaning.specs.Passes.{Settles}
use Rattle.meaning.specs.Runs.{begun, whole_span, first_work, next_work}
use Rattle.meaning.specs.WellFormed.{◌∈◌, here, there, Present, FitSays, Nested, WellFormed}
use Rattle.meaning.proofs.StaysWellFormed.{settles_rest}
use Rattle.meaning.proofs.RunsInSomeOrder.{going_in}
use Rattle.meaning.proofs.FinishedSatisfies.{next_well_formed, first_well_formed}
use Rattle.board.specs.declared.row.Row.{Row}
use Rattle.board.specs.Store.{span_of, Store, work, rising}
use Rattle.board.proofs.Rows.{rising_below}
use Rattle.settling.specs.Ready.{present, nests, ready}

-- a test that one item of a list passes
any_in : {A : Type 0} (p : A → Bool) (l : List A) (x : A) → x ∈ l → p x ≡ true → list_any p l ≡ true
any_in p [] x q e = elim q [ ]
any_in p (y ∷ l) x (here a) e = or_left (p y) (list_any p l) (ap p (sym a) ∙ e)
any_in p (y ∷ l) x (there q) e = or_right (p y) (list_any p l) (any_in p l x q e)

-- a test that all items pass, at one of them
all_in : {A : Type 0} (p : A → Bool) (l : List A) → list_all p l ≡ true → (x : A) → x ∈ l → p x ≡ true
all_in p [] e x q = elim q [ ]
all_in p (y ∷ l) e x (here a) = ap p a ∙ (and_parts (p y) (list_all p l) e).0
all_in p (y ∷ l) e x (there q) = all_in p l (and_parts (p y) (list_all p l) e).1 x q

-- and from each of them
all_from : {A : Type 0} (p : A → Bool) (l : List A) → ((x : A) → x ∈ l → p x ≡ true) → list_all p l ≡ true
all_from p [] h = refl
all_from p (y ∷ l) h = and_from (p y) (list_all p l) (h y (here refl)) (all_from p l (λ x q. h x (there q)))

-- a span that the test finds lives
present_says : (l : List Span) (s : ℕ) → present l s ≡ true → Present l s
present_says [] s e = absurd (false≢true e)
present_says (t ∷ l) s e =
    ⊎_elim (λ (p : eqb t.serial s ≡ true). record { span = t; inside = here refl; named = eqb-true t.serial s p })
    (λ (p : present l s ≡ true). let h = present_says l s p in record { span = h.span; inside = there h.inside; named = h.named }) (or_cases (eqb t.serial s) (present l s) e)

-- and one that lives is found
says_present : (l : List Span) (s : ℕ) → Present l s → present l s ≡ true
says_present l s h = any_in (λ (t : Span). eqb t.serial s) l h.span h.inside (eq-eqb h.span.serial s h.named)

-- the same of a span's place
nests_says : (l : List Span) (s : ℕ) (q : Option Opening) → nests l s q ≡ true → Nested l s q
nests_says l s None e = eqb-true s 0 e
nests_says l s (Some g) e =
    let p = and_parts (ltb g.follower.span s) (present l g.follower.span) e in (ltb-true g.follower.span s p.0, present_says l g.follower.span p.1)

says_nests : (l : List Span) (s : ℕ) (q : Option Opening) → Nested l s q → nests l s q ≡ true
says_nests l s None h = eq-eqb s 0 h
says_nests l s (Some g) h = and_from (ltb g.follower.span s) (present l g.follower.span) (lt-ltb g.follower.span s h.0) (says_present l g.follower.span h.1)

-- an unknown number is none
none_says : (o : Option ℤ) → is_none o ≡ true → o ≡ None
none_says None e = refl
none_says (Some v) e = absurd (false≢true e)

-- where all are unknown, so is the one at each place
none_at : (l : List (Option ℤ)) → list_all is_none l ≡ true → (x : ℕ) → get_or l x None ≡ None
none_at [] e x = refl
none_at (o ∷ l) e zero = none_says o (and_parts (is_none o) (list_all is_none l) e).0
none_at (o ∷ l) e (suc x) = none_at l (and_parts (is_none o) (list_all is_none l) e).1 x

-- and where each is, so are all
at_none : (l : List (Option ℤ)) → ((x : ℕ) → get_or l x None ≡ None) → list_all is_none l ≡ true
at_none [] h = refl
at_none (o ∷ l) h = and_from (is_none o) (list_all is_none l) (ap is_none (h 0)) (at_none l (λ x. h (suc x)))

-- a list without length has no duty
no_duty : (l : List Duty) → eqb (length l) 0 ≡ true → (d : Duty) → d ∈ l → ⊥
no_duty [] e d q = elim q [ ]
no_duty (x ∷ l) e d q = let n : length (x ∷ l) ≡ 0 = eqb-true (length (x ∷ l)) 0 e in omega (arith, n)

-- the spans of rows are as old as the rows
few_serials : (l : List Row) (n : ℕ) → ((r : Row) → r ∈ l → r.span.serial < n) → (t : Span) → t ∈ map span_of l → t.serial < n
few_serials [] n h t q = elim q [ ]
few_serials (r ∷ l) n h t (here e) = subst (λ (z : Span). z.serial < n) (sym e) (h r (here refl))
few_serials (r ∷ l) n h t (there q) = few_serials l n (λ x m. h x (there m)) t q

-- whether a span may be there where a state begins
abbrev kept : List Span → Span → Bool
kept l t = not t.fresh && nests l t.serial t.opening

-- tables that are ready are a work in order
pub ready_well_formed : (S : Setting) (m : Store) → rising 0 m.rows m.next ≡ true → ready m ≡ true → WellFormed S (work m)
ready_well_formed S m o e =
    let l : List Span = map span_of m.rows in
    let a = and_parts _ (list_all (kept l) l) e in
    let b = and_parts _ (list_all (λ (d : Duty). present l d.span) m.duties) a.0 in
    let c = and_parts (list_all is_none m.values) (eqb (length m.later) 0) b.0 in
    let k : (t : Span) → t ∈ l → (not t.fresh ≡ true) × (nests l t.serial t.opening ≡ true) = λ t q. and_parts (not t.fresh) (nests l t.serial t.opening) (all_in (kept l) l a.1 t q) in
    record {
      fitted = λ x. subst (λ (z : Option ℤ). FitSays S x z) (sym (none_at m.values c.0 x)) tt;
      duty_present = λ d q. present_says l d.span (all_in (λ (d : Duty). present l d.span) m.duties b.1 d q);
      later_present = λ d q. absurd (no_duty m.later c.1 d q);
      nested = λ t q. nests_says l t.serial t.opening (k t q).1;
      few_serials = few_serials m.rows m.next (rising_below 0 m.rows m.next o);
      bodies = λ t q g p f. absurd (both_ways t.fresh (not-true t.fresh (k t q).0) f);
    }

-- the tables of a state that begins in order, without a fresh span, are ready
begun_ready : (S : Setting) (m : Store) (l : List Span) (ds : List Duty) (n : ℕ) → work m ≡ begun l ds n → WellFormed S (begun l ds n) → ((t : Span) → t ∈ l → t.fresh ≡ false) → ready m ≡ true
begun_ready S m l ds n e t f =
    let a : list_all is_none m.values ≡ true = at_none m.values (λ x. ap (λ (w : Work). w.known x) e) in
    let b : eqb (length m.later) 0 ≡ true = ap (λ (w : Work). eqb (length w.later) 0) e in
    let c : list_all (λ (d : Duty). present l d.span) ds ≡ true = all_from (λ (d : Duty). present l d.span) ds (λ d q. says_present l d.span (t.duty_present d q)) in
    let d : list_all (kept l) l ≡ true = all_from (kept l) l (λ s q. and_from (not s.fresh) (nests l s.serial s.opening) (not_from_false s.fresh (f s q)) (says_nests l s.serial s.opening (t.nested s q))) in
    and_from _ (list_all (kept (map span_of m.rows)) (map span_of m.rows))
    (and_from _ (list_all (λ (d : Duty). present (map span_of m.rows) d.span) m.duties) (and_from (list_all is_none m.values) (eqb (length m.later) 0) a b)
    (ap (λ (w : Work). list_all (λ (d : Duty). present w.spans d.span) w.duties) e ∙ c))
    (ap (λ (w : Work). list_all (kept w.spans) w.spans) e ∙ d)

-- a setting, where any will do
any_setting : Setting
any_setting = under first_sheet (λ x k. None)

-- so are those of a new board
pub new_ready : (m : Store) → work m ≡ begun [] [] 0 → ready m ≡ true
new_ready m e =
    begun_ready any_setting m [] [] 0 e
    (record { fitted = λ x. tt; duty_present = λ d q. elim q [ ]; later_present = λ d q. elim q [ ]; nested = λ t q. elim q [ ]; few_serials = λ t q. elim q [ ]; bodies = λ t q. elim q [ ] }) (λ t q. elim q [ ])

-- the whole interval is not fresh
whole_stale : (t : Span) → t ∈ (whole_span ∷ []) → t.fresh ≡ false
whole_stale t (here e) = ap (λ (z : Span). z.fresh) e
whole_stale t (there q) = elim q [ ]

-- those of the first state
pub first_ready : (p : ℕ) (m : Store) → work m ≡ first_work p → ready m ≡ true
first_ready p m e = begun_ready any_setting m _ _ 1 e (first_well_formed p) whole_stale

-- and those of the state after a settled one
pub next_ready : (S : Setting) → Limits S.sheet → (k : ℕ) (w u : Work) (m : Store) → WellFormed S w → Settles S k w (goes u false) → work m ≡ next_work u → ready m ≡ true
next_ready S L k w u m t s e = begun_ready S m _ _ u.next e (next_well_formed k w u (settles_rest S L k w (goes u false) u s refl t)) (λ x q. (going_in u.ends u.spans x q).stale)
