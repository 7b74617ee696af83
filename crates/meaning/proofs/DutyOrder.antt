-- The order that duties derive, and that it is total. Assumes nothing.
use Rattle.std.proofs.Common.{◌≡◌, ℤ, Some, None, Option, sym, refl, ap}
use Rattle.std.proofs.lemmas.Bool.{true≢false}
use Rattle.std.proofs.lemmas.Cmp.{int_ranked}
use Rattle.std.specs.declared.cmp.Ordering.{Ordering}
use Rattle.std.specs.declared.cmp.Ordering.TheVariants.{Equal}
use Rattle.std.specs.Cmp.{IsTotalOrder}
use Rattle.std.specs.Option.{option_cmp}
use Rattle.std.specs.Ordering.{nat_cmp, int_cmp, ordering_then, is_eq}
use Rattle.meaning.specs.declared.duties.Duty.{Duty}
use Rattle.meaning.specs.contracts.duties.DutyOrd.TheImpl as DutyOrd
use Rattle.meaning.specs.contracts.duties.DutyOrd.TheImpl.Laws.{total-law}

-- duties by their statements, then by their spans, then by their numbers; no number is ahead of all numbers
abbrev pub by_duty : Duty → Duty → Ordering
by_duty a b = ordering_then (nat_cmp a.statement b.statement) (ordering_then (nat_cmp a.span b.span) (option_cmp int_cmp a.number b.number))

-- it is the order that they derive
pub derived_duty : (a b : Duty) → DutyOrd.cmp-value.it a b ≡ by_duty a b
derived_duty a b = refl

-- and a total one
pub fair_duty : IsTotalOrder by_duty
fair_duty = total-law

-- numbers, or none, that compare as the same are equal
pub option_same : (a b : Option ℤ) → option_cmp int_cmp a b ≡ Equal → a ≡ b
option_same None None e = refl
option_same None (Some v) e = absurd (true≢false (sym (ap is_eq e)))
option_same (Some u) None e = absurd (true≢false (sym (ap is_eq e)))
option_same (Some u) (Some v) e = ap {B = Option ℤ} Some (int_ranked u v Equal (sym e))
