-- What a work at rest grants, and that a work is placed in it exactly where it is a part of it.
use Rattle.std.proofs.Common.{◌≡◌, ℕ, zero, suc, ◌<◌, true, List, ℤ, pos, negsuc, Some, None, Option, sym, refl, ◌∙◌, subst}
use Rattle.sheet.specs.declared.elements.Expression.{Expression}
use Rattle.sheet.specs.declared.elements.Statement.{Statement}
use Rattle.sheet.specs.declared.elements.Statement.TheVariants.{True, False, Empty, More, Is, And, If, Next, Always, Halt, Len, Gets, Chop, For, While, Request}
use Rattle.value.specs.declared.end.End.{End}
use Rattle.value.specs.declared.end.End.TheVariants.{Unknown, On, Last}
use Rattle.value.specs.Values.{known_at}
use Rattle.meaning.specs.declared.duties.Duty.{Duty}
use Rattle.meaning.specs.declared.duties.Opening.{Opening}
use Rattle.meaning.specs.Intervals.{Setting, statement_at, value_fits}
use Rattle.meaning.specs.Work.{Work}
use Rattle.meaning.specs.WellFormed.{◌∈◌, EndIs, Present, FitSays, Nested, WellFormed, IsEnded}
use Rattle.meaning.proofs.Tests.{Stands, on_last}
use Rattle.meaning.proofs.Rest.{Demands, LenRest, ForRest, Rest, pass_rests}
use Rattle.meaning.proofs.Extending.{more_known}
use Rattle.meaning.proofs.PartOf.{PartOfWork, AsksAlike, KnowsAsMuch, AtRest, NoDoubles}
use Rattle.meaning.proofs.Grants.{Grants, Shown, OpensGranted, LenAsks, ForAsks, Asks, OuterBelow, PlacedIn}

-- what a work grants to the works that lie in it one to one: it is never full, and contradicts nothing
abbrev pub rest_grants : Work → Grants
rest_grants u = record {
  value = λ x v. u.known x ≡ Some v;
  at = λ j e. EndIs (u.ends j) e;
  now = λ d. d ∈ u.duties;
  next = λ d. d ∈ u.later;
  held = λ t. t ∈ u.spans;
  extra = NoDoubles u;
  full = ⊥;
  clash = ⊥;
}

is_ended : (c e : End) → EndIs e c → IsEnded c → e ≡ c
is_ended Unknown e h i = absurd i
is_ended On e h i = h
is_ended Last e h i = h

pub same_knows : (S T : Setting) (u : Work) → S.sheet.expressions ≡ T.sheet.expressions → KnowsAsMuch S T u
same_knows S T u p f c s e v h i q =
    subst (λ (l : List Expression). known_at l u.known (u.ends s) e ≡ Some v) p (more_known f u.known c (u.ends s) h (is_ended c (u.ends s) i) S.sheet.expressions e v q)

module _ (S T : Setting) (k : ℕ) (u : Work) (K : KnowsAsMuch S T u) (R : WellFormed T u) where
  opens_of : (g : Opening) → Stands g u.spans → OpensGranted (rest_grants u) g
  opens_of g h =
      let e : h.span ≡ record { serial = h.span.serial; opening = Some g; fresh = true } = λ i. record { serial = h.span.serial; opening = h.opened i; fresh = h.newly i } in
      let b = R.bodies h.span h.inside g h.opened h.newly in
      record { place = h.span.serial; holds = subst (λ z. z ∈ u.spans) e h.inside; body = b.0; starts = b.1 }

  len_of : (d : Duty) (c : ℤ) → LenRest d u c → LenAsks (rest_grants u) d c
  len_of d (pos zero) h = h
  len_of d (pos (suc n)) h = h
  len_of d (negsuc n) h = h

  for_of : (d : Duty) (p : ℕ) (c : ℤ) → ForRest d u p c → ForAsks (rest_grants u) d p c
  for_of d p (pos zero) h = h
  for_of d p (pos (suc n)) h = opens_of _ h
  for_of d p (negsuc n) h = h

  shown : (d : Duty) (e : ℕ) (v : ℤ) → Shown S (rest_grants u) d.span e v → known_at T.sheet.expressions u.known (u.ends d.span) e ≡ Some v
  shown d e v h = K h.numbers h.end d.span e v h.right h.ending h.gives

  -- a rest says what is asked
  asks_of : ((x : ℕ) → S.readings x k ≡ T.readings x k) → (d : Duty) (st : Statement) (o : Option ℤ) → Demands T k d u st o → Asks S k (rest_grants u) d st o
  asks_of r d True o h = tt
  asks_of r d False o h = h
  asks_of r d Empty o h = h
  asks_of r d More o h = h
  asks_of r d (Is x e) o h = λ v t. h v (shown d e v t)
  asks_of r d (And p q) o h = h
  asks_of r d (If e p q) o h = λ v t. h v (shown d e v t)
  asks_of r d (Next p) o h = h
  asks_of r d (Always p) o h = h
  asks_of r d (Halt e) o h = λ v t. h v (shown d e v t)
  asks_of r d (Len e) None h = λ v t. len_of d v (h v (shown d e v t))
  asks_of r d (Len e) (Some c) h = len_of d c h
  asks_of r d (Gets x e) None h = λ i v t. h i v (shown d e v t)
  asks_of r d (Gets x e) (Some v) h = h
  asks_of r d (Chop p q) o h = opens_of _ h
  asks_of r d (For e p) None h = λ v t. h v (shown d e v t)
  asks_of r d (For e p) (Some c) h = for_of d p c h
  asks_of r d (While e p) o h = λ v t. let y = h v (shown d e v t) in ((λ z. opens_of _ (y.0 z)), y.1)
  asks_of r d (Request x) o h = λ v t. h v (sym (r x) ∙ t)

  pub one_end : (j : ℕ) → EndIs (u.ends j) On → EndIs (u.ends j) Last → ⊥
  one_end j a b = on_last (sym a ∙ b)

  fits_of : (x : ℕ) (v : ℤ) (o : Option ℤ) → o ≡ Some v → FitSays T x o → value_fits T x v ≡ true
  fits_of x v o e h = subst (λ z. FitSays T x z) e h

  -- the part of being closed that speaks of what is granted alone
  pub record Closed : Type 0 where
    pub fitting : (x : ℕ) (v : ℤ) → u.known x ≡ Some v → value_fits S x v ≡ true
    pub of_duty : (d : Duty) → d ∈ u.duties → Asks S k (rest_grants u) d (statement_at S d.statement) d.number

  pub closed : AsksAlike S T k → Rest T k u → Closed
  closed A Q = record {
    fitting = λ x v e. A.ranges x v ∙ fits_of x v (u.known x) e (R.fitted x);
    of_duty = λ d q. subst (λ z. Asks S k (rest_grants u) d z d.number) (sym (A.statements d.statement)) (asks_of A.readings d (statement_at T d.statement) d.number (Q.of_duty d q));
  }

  -- a part of u is placed in what u grants
  pub placed_of : (φ : ℕ → ℕ) (w : Work) → WellFormed S w → PartOfWork φ w u → NoDoubles u w.next φ w → PlacedIn (rest_grants u) w.next φ w
  placed_of φ w t P x = record {
    next_is = refl;
    values = P.known;
    ends = P.ends;
    spans = λ r q. (t.few_serials r q, outer r.serial r.opening (t.nested r q), P.spans r q);
    duties = λ d q. (below (t.duty_present d q), P.duties d q);
    later = λ d q. (below (t.later_present d q).0, P.later d q);
    besides = x;
  }
    where
      below : {s : ℕ} → Present w.spans s → s < w.next
      below h = subst (λ z. z < w.next) h.named (t.few_serials h.span h.inside)

      outer : (s : ℕ) (q : Option Opening) → Nested w.spans s q → OuterBelow w.next q
      outer s None h = tt
      outer s (Some g) h = below h.1

  -- and what is placed is a part
  pub part_of : {n : ℕ} {φ : ℕ → ℕ} {w : Work} → PlacedIn (rest_grants u) n φ w → PartOfWork φ w u
  part_of Y = record { known = Y.values; ends = Y.ends; spans = λ t q. (Y.spans t q).2; duties = λ d q. (Y.duties d q).1; later = λ d q. (Y.later d q).1 }

-- a work at rest says what it grants
pub rest_of : (T : Setting) (k : ℕ) (u : Work) → AtRest T k u → Rest T k u
rest_of T k u h = (pass_rests T k u u h.quiet).1
