-- When a work lies inside another, by a renaming of the serials of spans; and when two settings ask alike.
use Rattle.std.proofs.Common.{◌≡◌, ℕ, ◌<◌, ◌≤◌, Bool, true, false, List, [], ◌∷◌, ℤ, Some, Option}
use Rattle.value.specs.declared.end.End.{End}
use Rattle.value.specs.Values.{known_at}
use Rattle.meaning.specs.declared.duties.Duty.{Duty}
use Rattle.meaning.specs.declared.duties.Opening.{Opening}
use Rattle.meaning.specs.declared.duties.Span.{Span}
use Rattle.meaning.specs.Intervals.{Setting, statement_at, value_fits}
use Rattle.meaning.specs.Work.{Work, Outcome, goes}
use Rattle.meaning.specs.Passes.{pass}
use Rattle.meaning.specs.Laws.{Roomy}
use Rattle.meaning.specs.WellFormed.{◌∈◌, EndIs, Present, WellFormed}
use Rattle.meaning.specs.AnyOrder.{duty_renamed, span_renamed}

-- the work w lies inside u, where its serials are renamed by φ: whatever w knows and holds, u does too
pub record PartOfWork (φ : ℕ → ℕ) (w u : Work) : Type 0 where
  pub known : (x : ℕ) (v : ℤ) → w.known x ≡ Some v → u.known x ≡ Some v
  pub ends : (s : ℕ) → EndIs (u.ends (φ s)) (w.ends s)
  pub spans : (t : Span) → t ∈ w.spans → span_renamed φ t ∈ u.spans
  pub duties : (d : Duty) → d ∈ w.duties → duty_renamed φ d ∈ u.duties
  pub later : (d : Duty) → d ∈ w.later → duty_renamed φ d ∈ u.later

-- at state k, T asks whatever S asks
pub record AsksAlike (S T : Setting) (k : ℕ) : Type 0 where
  pub ranges : (x : ℕ) (v : ℤ) → value_fits S x v ≡ value_fits T x v
  pub readings : (x : ℕ) → S.readings x k ≡ T.readings x k
  pub statements : (p : ℕ) → statement_at S p ≡ statement_at T p

-- whatever number S makes of a part of what u knows, T makes of all of it
abbrev pub KnowsAsMuch : Setting → Setting → Work → Type 0
KnowsAsMuch S T u =
    (f : ℕ → Option ℤ) (c : End) (s e : ℕ) (v : ℤ) → ((x : ℕ) (z : ℤ) → f x ≡ Some z → u.known x ≡ Some z) → EndIs (u.ends s) c
    → known_at S.sheet.expressions f c e ≡ Some v → known_at T.sheet.expressions u.known (u.ends s) e ≡ Some v

-- a work that is in order, and that a pass does not change
pub record AtRest (T : Setting) (k : ℕ) (u : Work) : Type 0 where
  pub well_formed : WellFormed T u
  pub quiet : pass T k u ≡ goes u false

-- no entry of a list comes twice
abbrev pub Distinct : {A : Type 0} → List A → Type 0
Distinct [] = Unit {0}
Distinct (x ∷ l) = (x ∈ l → ⊥) × Distinct l

-- no serial, no fresh opening and no entry of a list comes twice
pub record Neat (w : Work) : Type 0 where
  pub few_serials : (t : Span) → t ∈ w.spans → t.serial < w.next
  pub one_serial : (t r : Span) → t ∈ w.spans → r ∈ w.spans → t.serial ≡ r.serial → t ≡ r
  pub one_opening : (g : Opening) (t r : Span) → t ∈ w.spans → r ∈ w.spans → t.fresh ≡ true → r.fresh ≡ true → t.opening ≡ Some g → r.opening ≡ Some g → t ≡ r
  pub spans : Distinct w.spans
  pub later : Distinct w.later

-- of the serials below n, those alone that w holds are sent to spans of u, and no two to one
pub record OneToOne (n : ℕ) (φ : ℕ → ℕ) (w u : Work) : Type 0 where
  pub apart : (i j : ℕ) → i < n → j < n → Present u.spans (φ i) → φ i ≡ φ j → i ≡ j
  pub back : (i : ℕ) → i < n → Present u.spans (φ i) → Present w.spans i

-- what is kept of a part, of which n serials are in use: no entry comes twice, and it is one to one
pub record NoDoubles (u : Work) (n : ℕ) (φ : ℕ → ℕ) (w : Work) : Type 0 where
  pub neat : Neat w
  pub duties : Distinct w.duties
  pub one_to_one : OneToOne n φ w u

-- all that w starts with, v does too, where φ renames the serials of w, and ψ leads back
pub record Like (φ ψ : ℕ → ℕ) (w v : Work) : Type 0 where
  pub spans : (t : Span) → t ∈ w.spans → span_renamed φ t ∈ v.spans
  pub duties : (d : Duty) → d ∈ w.duties → duty_renamed φ d ∈ v.duties
  pub back : (s : ℕ) → Present w.spans s → ψ (φ s) ≡ s
  pub whole : φ 0 ≡ 0
  pub has_whole : Present w.spans 0

-- and so does w all that v starts with
pub record Twins (w v : Work) : Type 0 where
  pub φ : ℕ → ℕ
  pub ψ : ℕ → ℕ
  pub there : Like φ ψ w v
  pub back : Like ψ φ v w

-- an outcome that lies inside u, one to one, by a renaming that is φ below n; it is no stop at all
pub data Within (n : ℕ) (φ : ℕ → ℕ) (u : Work) : Outcome → Type 0 where
  within : {w : Work} (ψ : ℕ → ℕ) {c : Bool} → n ≤ w.next → ((s : ℕ) → s < n → ψ s ≡ φ s) → PartOfWork ψ w u → NoDoubles u w.next ψ w → Within n φ u (goes w c)

-- a work at rest, within the limits, whose spans have serials of their own, and a part of it, one to one
pub record PartOf (S T : Setting) (k : ℕ) (φ : ℕ → ℕ) (w u : Work) : Type 0 where
  pub alike : AsksAlike S T k
  pub knows : KnowsAsMuch S T u
  pub rest : AtRest T k u
  pub neat : Neat u
  pub roomy : Roomy u
  pub well_formed : WellFormed S w
  pub part : PartOfWork φ w u
  pub no_doubles : NoDoubles u w.next φ w
