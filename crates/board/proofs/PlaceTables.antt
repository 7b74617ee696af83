-- What a table of places says of a list, whose items are looked for in buckets.
use Rattle.std.proofs.Common.{◌≡◌, ℕ, zero, suc, ◌+◌, ◌%◌, ◌^◌, ◌<◌, ◌≤◌, true, false, ◌&&◌, eqb, ltb, List, [], ◌∷◌, ◌++◌, map, length, get_or, set, Some, None, Option, sym, refl, ap, ◌∙◌, subst, ⊎_elim, arith}
use mathlib.Core.List.{map-append}
use lib.ListN.{length-map}
use lib.Seq.{get_or-append_seam, map-set_same}
use Rattle.std.specs.Borrow.{Bor}
use Rattle.std.specs.List.{list_all, slice_get}
use Rattle.std.specs.Option.{option_eq, is_some, option_map, IfSome, MatchOption, IsSomeAnd}
use Rattle.std.proofs.lemmas.Option.{slice_get-map, slice_get-get_or, slice_get_past}
use Rattle.std.proofs.lemmas.Bool.{and_parts, and_from, or_left, or_right, cond-true, ltb-true, ltb-false, eq-eqb, eqb-true, false_from_ne_true, cases_eq, false≢true}
use Rattle.std.proofs.lemmas.Grind.{get_or-set_at}
use Rattle.std.proofs.lemmas.List.{get_or-set_other, get_or_append_left, get_or-map, get_or_read_under, map-set}
use Rattle.std.proofs.lemmas.List.Folds.{list_all-append}
use Rattle.value.specs.declared.end.End.{End}
use Rattle.value.specs.declared.end.End.TheVariants.{Unknown, On, Last}
use Rattle.meaning.specs.contracts.duties.DutyPartialEq.TheImpl as DutyEq
use Rattle.meaning.specs.declared.duties.Duty.{Duty}
use Rattle.meaning.specs.declared.duties.Opening.{Opening}
use Rattle.meaning.specs.declared.duties.Span.{Span}
use Rattle.meaning.specs.WellFormed.{◌∈◌, here, there}
use Rattle.meaning.specs.Work.{same_duty, has_duty, has_opened}
use Rattle.meaning.proofs.Tests.{has_in, has_opened_says}
use Rattle.board.specs.declared.row.Row.{Row}
use Rattle.board.specs.Store.{span_of, kept_row, kept_rows}
use Rattle.board.specs.Buckets.{bucket, place_after, duty_in, followed_in, opened_in, row_in, is_in, leads, all_lead}
use Rattle.board.proofs.DerivedEqual.{duty_alike}
use Rattle.board.proofs.Rows.{no_row, ended_by}

-- what is looked for in a bucket is in that bucket, and what stands at a place is in the list
in_says : (b : ℕ) (o : Option ℕ) → is_in b o ≡ true → o ≡ Some b
in_says b None e = absurd (false≢true e)
in_says b (Some c) e = ap Some (eqb-true c b e)

within : (l : List (Option ℕ)) (i b : ℕ) → is_in b (get_or l i None) ≡ true → i < length l
within [] i b e = absurd (false≢true e)
within (x ∷ l) zero b e = omega arith
within (x ∷ l) (suc i) b e = let h = within l i b e in omega arith

-- an item that comes takes the place of its bucket
new_led : (places : List ℕ) (l : List (Option ℕ)) (b n c : ℕ) → b < length places → n ≡ length l → c ≡ b → leads (set places b n) (l ++ Some b ∷ []) (Some c) ≡ true
new_led places l b n c h k p =
    ap (λ i. is_in c (get_or (l ++ Some b ∷ []) i None)) (get_or-set_at places b c n 0 p h ∙ k)
    ∙ ap (is_in c) (get_or-append_seam l (Some b) [] None)
    ∙ eq-eqb b c (sym p)

-- and every other item is still led to
still_led : (places : List ℕ) (l : List (Option ℕ)) (b n : ℕ) (o : Option ℕ) → b < length places → n ≡ length l → leads places l o ≡ true → leads (set places b n) (l ++ Some b ∷ []) o ≡ true
still_led places l b n None h k e = refl
still_led places l b n (Some c) h k e =
    ⊎_elim (λ (p : c ≡ b). new_led places l b n c h k p)
    (λ (p : c ≡ b → ⊥).
    ap (λ i. is_in c (get_or (l ++ Some b ∷ []) i None)) (get_or-set_other places b c n 0 p)
    ∙ ap (is_in c) (get_or_append_left l (Some b ∷ []) None (get_or places c 0) (within l (get_or places c 0) c e))
    ∙ e)
    (cases_eq c b)

all_led : (places : List ℕ) (l k : List (Option ℕ)) (b n : ℕ) → b < length places → n ≡ length l → list_all (leads places l) k ≡ true → list_all (leads (set places b n) (l ++ Some b ∷ [])) k ≡ true
all_led places l [] b n h q e = refl
all_led places l (o ∷ k) b n h q e =
    let p = and_parts (leads places l o) (list_all (leads places l) k) e in
    and_from (leads (set places b n) (l ++ Some b ∷ []) o) (list_all (leads (set places b n) (l ++ Some b ∷ [])) k) (still_led places l b n o h q p.0) (all_led places l k b n h q p.1)

listed_more : (places : List ℕ) (l : List (Option ℕ)) (b n : ℕ) → all_lead places l ≡ true → b < length places → n ≡ length l → all_lead (set places b n) (l ++ Some b ∷ []) ≡ true
listed_more places l b n e h k =
    let grown = l ++ Some b ∷ [] in
    let test = leads (set places b n) grown in
    list_all-append test l (Some b ∷ [])
    ∙ and_from (list_all test l) (test (Some b) && true) (all_led places l l b n h k e) (and_from (test (Some b)) true (new_led places l b n b h k refl) refl)

pub listed-push : {A : Type 0} (f : A → Option ℕ) (places : List ℕ) (l m : List A) (x : A) (b n : ℕ) → all_lead places (map f l) ≡ true → b < length places → f x ≡ Some b → n ≡ length l → m ≡ l ++ x ∷ [] → all_lead (set places b n) (map f m) ≡ true
listed-push f places l m x b n e h p k s =
    ap (λ z. all_lead (set places b n) (map f z)) s
    ∙ ap (all_lead (set places b n)) (map-append f l (x ∷ []) ∙ ap (λ o. map f l ++ o ∷ []) p)
    ∙ listed_more places (map f l) b n e h (k ∙ sym (length-map l f))

-- what comes after n that are gone and k that are there has place k
pub comes_at : (n k m : ℕ) → n < 2 ^ 32 → k < 2 ^ 32 → m ≡ (n + k) % 2 ^ 32 → place_after n m ≡ k
comes_at n k m h p e = omega (arith, h, p, e)

pub listed-come : (arrivals : List ℕ) (l m : List Duty) (d : Duty) (n b a : ℕ) → all_lead (map (place_after n) arrivals) (map duty_in l) ≡ true → b < length arrivals → b ≡ bucket d → n < 2 ^ 32 → length l < 2 ^ 32 → a ≡ (n + length l) % 2 ^ 32 → m ≡ l ++ d ∷ []
    → all_lead (map (place_after n) (set arrivals b a)) (map duty_in m) ≡ true
listed-come arrivals l m d n b a e h p q k s r =
    ap (λ z. all_lead z (map duty_in m)) (map-set (place_after n) arrivals b a)
    ∙ listed-push duty_in (map (place_after n) arrivals) l m d b (place_after n a) e (subst (λ z. b < z) (sym (length-map arrivals (place_after n))) h) (ap Some (sym p)) (comes_at n (length l) a q k s) r

-- what stands at a place of the list
pub at_place : {A : Type 0} (f : A → Option ℕ) (l k : List A) (i : ℕ) (x : A) → k ≡ l → true ≡ ltb i (length k) → x ≡ get_or k i x → get_or (map f l) i None ≡ f x
at_place f l k i x p h e = ap (λ z. get_or (map f z) i None) (sym p) ∙ get_or-map f k i x None (ltb-true i (length k) (sym h)) ∙ ap f (sym e)

-- what is made of the item at a place of the list is what stands there in the list of all that is made so, or nothing past the end
pub made_at : {A B : Type 0} (f : A → B) (l k : List A) (i : ℕ) (o : Option (Bor A)) (r : Option B) (P : Bor A → B → Type 0) → k ≡ l → is_some o ≡ ltb i (length k)
    → IfSome o (λ x. x.now ≡ get_or k i x.now) → MatchOption o (r ≡ None) (λ x. IsSomeAnd r (P x)) → ((x : Bor A) (y : B) → P x y → y ≡ f x.now) → r ≡ slice_get (map f l) i
made_at f l k i None r P p h e m g = m ∙ sym (slice_get-map f l i ∙ ap (option_map f) (slice_get_past l i (omega (arith, ap length p, ltb-false i (length k) (sym h)))))
made_at f l k i (Some x) None P p h e m g = absurd m
made_at f l k i (Some x) (Some y) P p h e m g =
    ap Some (g x y m) ∙ sym (slice_get-map f l i ∙ ap (option_map f) (ap (λ z. slice_get z i) (sym p) ∙ slice_get-get_or k i x.now (ltb-true i (length k) (sym h)) ∙ ap Some (sym e)))

nothing_past : (l : List (Option ℕ)) (i : ℕ) → length l ≤ i → get_or l i None ≡ None
nothing_past [] i h = refl
nothing_past (x ∷ l) zero h = absurd (omega arith)
nothing_past (x ∷ l) (suc i) h = nothing_past l i (omega arith)

pub past_end : {A : Type 0} (f : A → Option ℕ) (l k : List A) (i : ℕ) → k ≡ l → false ≡ ltb i (length k) → get_or (map f l) i None ≡ None
past_end f l k i p h = nothing_past (map f l) i (omega (arith, length-map l f, ap length p, ltb-false i (length k) (sym h)))

-- where the table leads to another bucket, or to nothing, no item is in this bucket
unled : (places : List ℕ) (k l : List (Option ℕ)) (b : ℕ) (o : Option ℕ) → leads places k (Some b) ≡ false → list_all (leads places k) l ≡ true → o ∈ l → is_in b o ≡ true → ⊥
unled places k [] b o h e q p = elim q [ ]
unled places k (y ∷ l) b o h e (here q) p = false≢true (sym h ∙ ap (leads places k) (sym (in_says b o p) ∙ q) ∙ (and_parts (leads places k y) (list_all (leads places k) l) e).0)
unled places k (y ∷ l) b o h e (there q) p = unled places k l b o h (and_parts (leads places k y) (list_all (leads places k) l) e).1 q p

in_map : {A : Type 0} (f : A → Option ℕ) (l : List A) (x : A) → x ∈ l → f x ∈ map f l
in_map f [] x q = elim q [ ]
in_map f (y ∷ l) x (here e) = here (ap f e)
in_map f (y ∷ l) x (there q) = there (in_map f l x q)

in_rows : (l : List Row) (t : Span) → t ∈ map span_of l → opened_in t ∈ map row_in l
in_rows [] t q = elim q [ ]
in_rows (r ∷ l) t (here e) = here (ap opened_in e)
in_rows (r ∷ l) t (there q) = there (in_rows l t q)

pub no_duty : (places : List ℕ) (l : List Duty) (d : Duty) (b i : ℕ) → all_lead places (map duty_in l) ≡ true → b ≡ bucket d → i ≡ get_or places b 0 → is_in b (get_or (map duty_in l) i None) ≡ false → false ≡ has_duty d l
no_duty places l d b i e p q h =
    sym (false_from_ne_true (has_duty d l) (λ k.
    unled places (map duty_in l) (map duty_in l) b (duty_in d) (ap (λ z. is_in b (get_or (map duty_in l) z None)) (sym q) ∙ h) e (in_map duty_in l d (has_in d l k)) (eq-eqb (bucket d) b (sym p))))

-- a span that was opened so is in the bucket of what follows it
opened_there : (t : Span) (g : Opening) (b : ℕ) → t.fresh ≡ true → t.opening ≡ Some g → b ≡ bucket g.follower → is_in b (opened_in t) ≡ true
opened_there t g b n o p = ap (is_in b) (cond-true t.fresh (followed_in t.opening) None n ∙ ap followed_in o) ∙ eq-eqb (bucket g.follower) b (sym p)

pub none_opened : (places : List ℕ) (l : List Row) (g : Opening) (b i : ℕ) → all_lead places (map row_in l) ≡ true → b ≡ bucket g.follower → i ≡ get_or places b 0 → is_in b (get_or (map row_in l) i None) ≡ false → false ≡ has_opened g (map span_of l)
none_opened places l g b i e p q h =
    sym (false_from_ne_true (has_opened g (map span_of l)) (λ k. let s = has_opened_says g (map span_of l) k in
    unled places (map row_in l) (map row_in l) b (opened_in s.span) (ap (λ z. is_in b (get_or (map row_in l) z None)) (sym q) ∙ h) e (in_rows l s.span s.inside) (opened_there s.span g b s.newly s.opened p)))

stands : (l : List Duty) (i : ℕ) (x d : Duty) → i < length l → x ≡ get_or l i x → same_duty d x ≡ true → has_duty d l ≡ true
stands [] i x d h e q = absurd (omega arith)
stands (y ∷ l) zero x d h e q = or_left (same_duty d y) (has_duty d l) (subst (λ z. same_duty d z ≡ true) e q)
stands (y ∷ l) (suc i) x d h e q = or_right (same_duty d y) (has_duty d l) (stands l i x d (omega arith) e q)

-- a duty that stands in the list is in the list
pub met : (l k : List Duty) (d x : Duty) (i : ℕ) → k ≡ l → true ≡ ltb i (length k) → x ≡ get_or k i x → DutyEq.eq-value.it d x ≡ true → has_duty d l ≡ true
met l k d x i p h e q = ap (has_duty d) (sym p) ∙ stands k i x d (ltb-true i (length k) (sym h)) e (sym (duty_alike d x) ∙ q)

-- rows that are kept are in no bucket, and a row with another end is in the same
pub listed-kept : (places : List ℕ) (k : List (Option ℕ)) (l : List Row) → list_all (leads places k) (map row_in (kept_rows l)) ≡ true
listed-kept places k [] = refl
listed-kept places k (r ∷ l) = by r.end (listed-kept places k l)
  where
    by : (c : End) → list_all (leads places k) (map row_in (kept_rows l)) ≡ true → list_all (leads places k) (map row_in (kept_row c r (kept_rows l))) ≡ true
    by Unknown ih = ih
    by On ih = ih
    by Last ih = ih

pub listed-set : (places : List ℕ) (l : List Row) (i n : ℕ) (r : Row) (e : End) → r ≡ get_or l i r → i < n → n ≡ length l → all_lead places (map row_in l) ≡ true → all_lead places (map row_in (set l i (ended_by r e))) ≡ true
listed-set places l i n r e p h k b =
    ap (all_lead places) (ap (λ z. map row_in (set l i (ended_by z e))) (get_or_read_under l i n r no_row p h k) ∙ map-set_same row_in l i (ended_by (get_or l i no_row) e) no_row refl) ∙ b

-- the derived comparison of buckets answers what the test says
pub in_alike : (o : Option ℕ) (b : ℕ) → option_eq eqb o (Some b) ≡ is_in b o
in_alike None b = refl
in_alike (Some c) b = refl
