-- The measure that each change lowers.
use Rattle.std.proofs.Common.{◌≡◌, ℕ, zero, suc, ◌+◌, ◌-◌, ◌<◌, ◌≤◌, Bool, true, false, cond, ◌||◌, eqb, List, [], ◌∷◌, ◌++◌, length, ℤ, Some, None, Option, sym, refl, ap, ◌∙◌, arith}
use Rattle.std.proofs.lemmas.Bool.{false≢true, eqb-true, eqb-false}
use Rattle.value.specs.declared.end.End.{End}
use Rattle.value.specs.declared.end.End.TheVariants.{Unknown, On, Last}
use Rattle.meaning.specs.declared.duties.Duty.{Duty}
use Rattle.meaning.specs.declared.duties.Opening.{Opening}
use Rattle.meaning.specs.declared.duties.Span.{Span}
use Rattle.meaning.specs.Work.{Work, set_at, plain}
use Rattle.meaning.specs.Effects.{most_duties, most_spans, with_value, with_end, with_duty, with_later, with_span}
use Rattle.meaning.specs.WellFormed.{◌∈◌, here, there, Present, IsEnded}
use Rattle.meaning.proofs.Lists.{longer, set_same, set_other}

-- variables without a value
abbrev pub lacks : Option ℤ → ℕ
lacks None = 1
lacks (Some _) = 0

abbrev pub missing : ℕ → (ℕ → Option ℤ) → ℕ
missing zero f = 0
missing (suc n) f = lacks (f n) + missing n f

-- spans without an end
abbrev pub open_end : End → ℕ
open_end Unknown = 1
open_end On = 0
open_end Last = 0

abbrev pub loose : (ℕ → End) → List Span → ℕ
loose e [] = 0
loose e (t ∷ l) = open_end (e t.serial) + loose e l

-- how much is left to find out: a measure that every change lowers
abbrev pub left : ℕ → Work → ℕ
left n w = missing n w.known + (loose w.ends w.spans + ((most_duties - length w.duties) + ((most_duties - length w.later) + ((most_spans - length w.spans) + (most_spans - length w.spans)))))

-- u has no more left to find out than w, and less where something has changed
pub record Less (n : ℕ) (c : Bool) (u w : Work) : Type 0 where
  pub le : left n u ≤ left n w
  pub lt : c ≡ true → left n u < left n w

pub less_same : {n : ℕ} (w : Work) → Less n false w w
less_same w = record { le = omega arith; lt = λ e. absurd (false≢true e) }

pub less_trans : {n : ℕ} (c b : Bool) {w v u : Work} → Less n c v w → Less n b u v → Less n (c || b) u w
less_trans true b f g = record { le = omega (arith, f.le, g.le); lt = λ _. omega (arith, f.lt refl, g.le) }
less_trans false b f g = record { le = omega (arith, f.le, g.le); lt = λ e. omega (arith, f.le, g.lt e) }

strictly : {n : ℕ} {u w : Work} → left n u < left n w → Less n true u w
strictly h = record { le = omega arith; lt = λ _. h }

pub less_duty : (n : ℕ) (d : Duty) (w : Work) → length w.duties < most_duties → Less n true (with_duty d w) w
less_duty n d w h = strictly (omega (arith, longer w.duties d))

pub less_later : (n : ℕ) (d : Duty) (w : Work) → length w.later < most_duties → Less n true (with_later d w) w
less_later n d w h = strictly (omega (arith, longer w.later d))

missing-same : (n : ℕ) (f : ℕ → Option ℤ) (x : ℕ) (q : Option ℤ) → n ≤ x → missing n (set_at f x q) ≡ missing n f
missing-same zero f x q h = refl
missing-same (suc n) f x q h = let a : lacks (set_at f x q n) ≡ lacks (f n) = ap lacks (set_other f x q n h) in let b : missing n (set_at f x q) ≡ missing n f = missing-same n f x q (omega arith) in omega arith

missing_less : (n : ℕ) (f : ℕ → Option ℤ) (x : ℕ) (v : ℤ) → f x ≡ None → x < n → missing n (set_at f x (Some v)) < missing n f
missing_less zero f x v e h = absurd (omega arith)
missing_less (suc n) f x v e h = by (eqb x n) refl (missing_less n f x v e)
  where
    by : (b : Bool) → eqb x n ≡ b → (x < n → missing n (set_at f x (Some v)) < missing n f) → lacks (cond b (Some v) (f n)) + missing n (set_at f x (Some v)) < lacks (f n) + missing n f
    by true p ih =
        let a : lacks (f n) ≡ 1 = ap (λ z. lacks (f z)) (sym (eqb-true x n p)) ∙ ap lacks e in
        let b : missing n (set_at f x (Some v)) ≡ missing n f = missing-same n f x (Some v) (omega (arith, eqb-true x n p)) in
        omega arith
    by false p ih = let q : x ≡ n → ⊥ = eqb-false x n p in let a : missing n (set_at f x (Some v)) < missing n f = ih (omega (arith, q)) in omega arith

pub less_known : (n x : ℕ) (v : ℤ) (w : Work) → w.known x ≡ None → x < n → Less n true (with_value x v w) w
less_known n x v w e h = strictly (let a : missing n (set_at w.known x (Some v)) < missing n w.known = missing_less n w.known x v e h in omega arith)

open_set : (e : End) → IsEnded e → open_end e ≡ 0
open_set Unknown h = absurd h
open_set On h = refl
open_set Last h = refl

-- an end put makes no span looser
end_le : (f : ℕ → End) (s : ℕ) (e : End) → IsEnded e → (t : ℕ) → open_end (set_at f s e t) ≤ open_end (f t)
end_le f s e h t = by (eqb s t)
  where
    by : (b : Bool) → open_end (cond b e (f t)) ≤ open_end (f t)
    by true = omega (arith, open_set e h)
    by false = omega arith

loose_le : (f : ℕ → End) (s : ℕ) (e : End) → IsEnded e → (l : List Span) → loose (set_at f s e) l ≤ loose f l
loose_le f s e h [] = omega arith
loose_le f s e h (t ∷ l) = omega (arith, end_le f s e h t.serial, loose_le f s e h l)

loose_less : (f : ℕ → End) (s : ℕ) (e : End) → IsEnded e → f s ≡ Unknown → (t : Span) (l : List Span) → t ∈ l → t.serial ≡ s → loose (set_at f s e) l < loose f l
loose_less f s e h u t [] q p = elim q [ ]
loose_less f s e h u t (x ∷ l) (here r) p =
    let a : x.serial ≡ s = ap (λ z. z.serial) (sym r) ∙ p in
    let b : open_end (f x.serial) ≡ 1 = ap open_end (ap f a ∙ u) in
    let c : open_end (set_at f s e x.serial) ≡ 0 = ap (λ z. open_end (set_at f s e z)) a ∙ ap open_end (set_same f s e) ∙ open_set e h in
    omega (arith, loose_le f s e h l)
loose_less f s e h u t (x ∷ l) (there q) p = omega (arith, end_le f s e h x.serial, loose_less f s e h u t l q p)

pub less_end : (n : ℕ) (e : End) (s : ℕ) (w : Work) → IsEnded e → w.ends s ≡ Unknown → Present w.spans s → Less n true (with_end e s w) w
less_end n e s w h u l = strictly (let a : loose (set_at w.ends s e) w.spans < loose w.ends w.spans = loose_less w.ends s e h u l.span w.spans l.inside l.named in omega arith)

loose-other : (f : ℕ → End) (s : ℕ) (e : End) (l : List Span) → ((t : Span) → t ∈ l → t.serial < s) → loose (set_at f s e) l ≡ loose f l
loose-other f s e [] h = refl
loose-other f s e (t ∷ l) h = let a : open_end (set_at f s e t.serial) ≡ open_end (f t.serial) = ap open_end (set_other f s e t.serial (h t (here refl))) in let b : loose (set_at f s e) l ≡ loose f l = loose-other f s e l (λ r q. h r (there q)) in omega arith

loose_snoc : (f : ℕ → End) (l : List Span) (t : Span) → loose f (l ++ (t ∷ [])) ≤ loose f l + 1
loose_snoc f [] t = by (f t.serial)
  where
    by : (c : End) → open_end c + 0 ≤ 0 + 1
    by Unknown = omega arith
    by On = omega arith
    by Last = omega arith
loose_snoc f (x ∷ l) t = omega (arith, loose_snoc f l t)

pub less_span : (n : ℕ) (g : Opening) (w : Work) → ((t : Span) → t ∈ w.spans → t.serial < w.next) → length w.spans < most_spans → Less n true (with_span g w) w
less_span n g w y h = strictly (
    let t : Span = record { serial = w.next; opening = Some g; fresh = true } in
    let f : ℕ → End = set_at w.ends w.next g.starts in
    let a : loose f (w.spans ++ (t ∷ [])) ≤ loose f w.spans + 1 = loose_snoc f w.spans t in
    let b : loose f w.spans ≡ loose w.ends w.spans = loose-other w.ends w.next g.starts w.spans y in
    omega (arith, longer w.spans t, longer w.duties (plain g.body w.next)))
