-- What every work of a run keeps in order. The contracts of the code that settles a state ask for it; no law speaks of it. Assumes nothing.
use Rattle.std.specs.Prelude.{◌≡◌, ℕ, ◌<◌, ◌≤◌, true, List, ℤ, Some, None, Option}
use Rattle.std.specs.List.{slice_get}
use Rattle.value.specs.declared.end.End.{End}
use Rattle.value.specs.declared.end.End.TheVariants.{Unknown, On, Last}
use Rattle.meaning.specs.declared.duties.Duty.{Duty}
use Rattle.meaning.specs.declared.duties.Opening.{Opening}
use Rattle.meaning.specs.declared.duties.Span.{Span}
use Rattle.meaning.specs.Intervals.{Setting, value_fits}
use Rattle.meaning.specs.Work.{Work, plain}
pub use Rattle.meaning.specs.Members.{◌∈◌, here, there, Present}

-- the end c is e, if e is known
abbrev pub EndIs : End → End → Type 0
EndIs c Unknown = Unit {0}
EndIs c On = c ≡ On
EndIs c Last = c ≡ Last

-- a known number is in its range
abbrev pub FitSays : Setting → ℕ → Option ℤ → Type 0
FitSays S x None = Unit {0}
FitSays S x (Some v) = value_fits S x v ≡ true

-- the outer span of a span is older, and still there; only the whole interval has none
abbrev pub Nested : List Span → ℕ → Option Opening → Type 0
Nested l s None = s ≡ 0
Nested l s (Some g) = (g.follower.span < s) × Present l g.follower.span

-- a fresh span runs its body, and if it started on, it is on
abbrev pub RunsBody : Work → Span → Type 0
RunsBody w t = (g : Opening) → t.opening ≡ Some g → t.fresh ≡ true → (plain g.body t.serial ∈ w.duties) × EndIs (w.ends t.serial) g.starts

-- what every work of a run keeps in order
pub record WellFormed (S : Setting) (w : Work) : Type 0 where
  pub fitted : (x : ℕ) → FitSays S x (w.known x)
  pub duty_present : (d : Duty) → d ∈ w.duties → Present w.spans d.span
  pub later_present : (d : Duty) → d ∈ w.later → Present w.spans d.span × (w.ends d.span ≡ On)
  pub nested : (t : Span) → t ∈ w.spans → Nested w.spans t.serial t.opening
  pub few_serials : (t : Span) → t ∈ w.spans → t.serial < w.next
  pub bodies : (t : Span) → t ∈ w.spans → RunsBody w t

-- an end that is known
abbrev pub IsEnded : End → Type 0
IsEnded Unknown = ⊥
IsEnded On = Unit {0}
IsEnded Last = Unit {0}

-- u is the work w, or a later one of the same state
pub record Extends (w u : Work) : Type 0 where
  pub knowns : (x : ℕ) (v : ℤ) → w.known x ≡ Some v → u.known x ≡ Some v
  pub ends : (s : ℕ) → s < w.next → IsEnded (w.ends s) → u.ends s ≡ w.ends s
  pub duties : (i : ℕ) (d : Duty) → slice_get w.duties i ≡ Some d → slice_get u.duties i ≡ Some d
  pub carried : (d : Duty) → d ∈ w.later → d ∈ u.later
  pub spans : (i : ℕ) (t : Span) → slice_get w.spans i ≡ Some t → slice_get u.spans i ≡ Some t
  pub serials : w.next ≤ u.next
