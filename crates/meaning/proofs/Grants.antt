-- What may be granted at places: numbers, ends, duties and spans; when that is closed under the rules; and when a work is placed in it.
-- A work at rest grants what it knows and holds, at its serials; an interval grants what holds of it, at its states.
use Rattle.std.proofs.Common.{◌≡◌, ℕ, zero, suc, ◌<◌, ◌≢◌, Bool, true, false, cond, ◌&&◌, ltb, length, ℤ, pos, negsuc, Some, None, Option, ◌⊎◌}
use Rattle.sheet.specs.declared.elements.Statement.{Statement}
use Rattle.sheet.specs.declared.elements.Statement.TheVariants.{True, False, Empty, More, Is, And, If, Next, Always, Halt, Len, Gets, Chop, For, While, Request}
use Rattle.value.specs.declared.end.End.{End}
use Rattle.value.specs.declared.end.End.TheVariants.{Unknown, On, Last}
use Rattle.value.specs.Values.{truth, known_at}
use Rattle.meaning.specs.declared.duties.Duty.{Duty}
use Rattle.meaning.specs.declared.duties.Opening.{Opening}
use Rattle.meaning.specs.declared.duties.Span.{Span}
use Rattle.meaning.specs.Intervals.{Setting, statement_at, value_fits}
use Rattle.meaning.specs.Work.{Work, plain, numbered, has_duty, has_opened, set_at}
use Rattle.meaning.specs.Effects.{most_duties, most_spans, with_value, with_end, with_duty, with_later, with_span}
use Rattle.meaning.specs.Rules.{chop_opening, for_opening, while_opening}
use Rattle.meaning.specs.WellFormed.{◌∈◌}
use Rattle.meaning.specs.AnyOrder.{duty_renamed, opening_renamed, span_renamed}

-- what is granted; the span of a duty, the serial of a span and the span of what follows it are places here
pub record Grants : Type 1 where
  -- variable x has the number v
  pub value : ℕ → ℤ → Type 0
  -- this may be known of the end of a place
  pub at : ℕ → End → Type 0
  -- a duty of this state, and one of the next
  pub now : Duty → Type 0
  pub next : Duty → Type 0
  -- a span
  pub held : Span → Type 0
  -- what else is kept of a work whose first n serials are placed
  pub extra : ℕ → (ℕ → ℕ) → Work → Type 0
  -- what a full list says, and what a contradiction does
  pub full : Type 0
  pub clash : Type 0

-- a number that what is granted of a place tells of an expression
pub record Shown (S : Setting) (G : Grants) (j e : ℕ) (v : ℤ) : Type 0 where
  pub numbers : ℕ → Option ℤ
  pub end : End
  pub right : (x : ℕ) (z : ℤ) → numbers x ≡ Some z → G.value x z
  pub ending : G.at j end
  pub gives : known_at S.sheet.expressions numbers end e ≡ Some v

-- a fresh span that was opened so, and runs its body
pub record OpensGranted (G : Grants) (g : Opening) : Type 0 where
  pub place : ℕ
  pub holds : G.held (record { serial = place; opening = Some g; fresh = true })
  pub body : G.now (plain g.body place)
  pub starts : G.at place g.starts

module _ (G : Grants) where
  abbrev pub LenAsks : Duty → ℤ → Type 0
  LenAsks d (pos zero) = G.at d.span Last
  LenAsks d (pos (suc n)) = G.at d.span On × G.next (numbered d.statement (pos n) d.span)
  LenAsks d (negsuc n) = G.clash

  abbrev pub ForAsks : Duty → ℕ → ℤ → Type 0
  ForAsks d p (pos zero) = G.at d.span Last
  ForAsks d p (pos (suc n)) = OpensGranted G (for_opening d p n)
  ForAsks d p (negsuc n) = G.at d.span Last

  -- what a span asks
  abbrev pub SpanAsks : ℕ → Opening → Type 0
  SpanAsks s g = (G.at s On → G.at g.follower.span On) × (G.at s Last → G.now g.follower) × (G.at g.follower.span Last → G.at s Last)

-- what a duty asks
abbrev pub Asks : Setting → ℕ → Grants → Duty → Statement → Option ℤ → Type 0
Asks S k G d True o = Unit {0}
Asks S k G d False o = G.clash
Asks S k G d Empty o = G.at d.span Last
Asks S k G d More o = G.at d.span On
Asks S k G d (Is x e) o = (v : ℤ) → Shown S G d.span e v → G.value x v
Asks S k G d (And p q) o = G.now (plain p d.span) × G.now (plain q d.span)
Asks S k G d (If e p q) o = (v : ℤ) → Shown S G d.span e v → G.now (plain (cond (truth v) p q) d.span)
Asks S k G d (Next p) o = G.at d.span On × G.next (plain p d.span)
Asks S k G d (Always p) o = G.now (plain p d.span) × (G.at d.span On → G.next d)
Asks S k G d (Halt e) o = (v : ℤ) → Shown S G d.span e v → (v ≢ pos 0 → G.at d.span Last) × (v ≡ pos 0 → G.at d.span On × G.next d)
Asks S k G d (Len e) None = (v : ℤ) → Shown S G d.span e v → LenAsks G d v
Asks S k G d (Len e) (Some c) = LenAsks G d c
Asks S k G d (Gets x e) None = G.at d.span On → (v : ℤ) → Shown S G d.span e v → G.next (numbered d.statement v d.span) × G.next d
Asks S k G d (Gets x e) (Some v) = G.value x v
Asks S k G d (Chop p q) o = OpensGranted G (chop_opening d p q)
Asks S k G d (For e p) None = (v : ℤ) → Shown S G d.span e v → G.now (numbered d.statement v d.span)
Asks S k G d (For e p) (Some c) = ForAsks G d p c
Asks S k G d (While e p) o = (v : ℤ) → Shown S G d.span e v → (v ≢ pos 0 → OpensGranted G (while_opening d p)) × (v ≡ pos 0 → G.at d.span Last)
Asks S k G d (Request x) o = (v : ℤ) → S.readings x k ≡ Some v → G.value x v

-- the outer span of a span is older
abbrev pub OuterBelow : ℕ → Option Opening → Type 0
OuterBelow n None = Unit {0}
OuterBelow n (Some g) = g.follower.span < n

abbrev pub DutyPlaced : (Duty → Type 0) → ℕ → (ℕ → ℕ) → Duty → Type 0
DutyPlaced P n φ d = (d.span < n) × P (duty_renamed φ d)

abbrev pub SpanPlaced : Grants → ℕ → (ℕ → ℕ) → Span → Type 0
SpanPlaced G n φ t = (t.serial < n) × OuterBelow n t.opening × G.held (span_renamed φ t)

abbrev pub ValueSays : Grants → ℕ → Option ℤ → Type 0
ValueSays G x o = (v : ℤ) → o ≡ Some v → G.value x v

-- the work, with n serials in use, is placed by φ: all of it is granted
pub record PlacedIn (G : Grants) (n : ℕ) (φ : ℕ → ℕ) (w : Work) : Type 0 where
  pub next_is : w.next ≡ n
  pub values : (x : ℕ) → ValueSays G x (w.known x)
  pub ends : (s : ℕ) → G.at (φ s) (w.ends s)
  pub spans : (t : Span) → t ∈ w.spans → SpanPlaced G n φ t
  pub duties : (d : Duty) → d ∈ w.duties → DutyPlaced G.now n φ d
  pub later : (d : Duty) → d ∈ w.later → DutyPlaced G.next n φ d
  pub besides : G.extra n φ w

-- with room, the extra fact is kept, and without it the list is full
abbrev pub RoomFor : Type 0 → Type 0 → Bool → Type 0
RoomFor X F b = (b ≡ true → X) × (b ≡ false → F)

-- what is granted is closed under the rules at state k
pub record Lawful (S : Setting) (k : ℕ) (G : Grants) : Type 0 where
  pub unknown : (j : ℕ) → G.at j Unknown
  pub one_end : (j : ℕ) → G.at j On → G.at j Last → G.clash
  pub one_value : (x : ℕ) (a b : ℤ) → G.value x a → G.value x b → (a ≡ b) ⊎ G.clash
  pub fitting : (x : ℕ) (v : ℤ) → G.value x v → (value_fits S x v ≡ true) ⊎ G.clash
  pub of_duty : (d : Duty) → G.now d → Asks S k G d (statement_at S d.statement) d.number
  pub of_span : (s : ℕ) (g : Opening) (f : Bool) → G.held (record { serial = s; opening = Some g; fresh = f }) → SpanAsks G s g
  -- the extra fact is kept
  pub value_extra : (n : ℕ) (φ : ℕ → ℕ) (w : Work) (x : ℕ) (v : ℤ) → G.extra n φ w → G.extra n φ (with_value x v w)
  pub end_extra : (n : ℕ) (φ : ℕ → ℕ) (w : Work) (e : End) (s : ℕ) → G.extra n φ w → G.extra n φ (with_end e s w)
  pub duty_extra : (n : ℕ) (φ : ℕ → ℕ) (w : Work) (d : Duty) → PlacedIn G n φ w → DutyPlaced G.now n φ d → has_duty d w.duties ≡ false
      → RoomFor (G.extra n φ (with_duty d w)) G.full (ltb (length w.duties) most_duties)
  pub later_extra : (n : ℕ) (φ : ℕ → ℕ) (w : Work) (d : Duty) → PlacedIn G n φ w → DutyPlaced G.next n φ d → has_duty d w.later ≡ false
      → RoomFor (G.extra n φ (with_later d w)) G.full (ltb (length w.later) most_duties)
  pub span_extra : (φ : ℕ → ℕ) (w : Work) (g : Opening) → PlacedIn G w.next φ w → g.follower.span < w.next → (o : OpensGranted G (opening_renamed φ g)) → has_opened g w.spans ≡ false
      → RoomFor (G.extra (suc w.next) (set_at φ w.next o.place) (with_span g w)) G.full (ltb (length w.spans) most_spans && ltb (length w.duties) most_duties)
