-- The spans that a `for` and a `while` open, where there is a round to go.
use Rattle.std.proofs.Common.{◌≡◌, ℕ, ℤ, pos, negsuc, zero, suc, refl, ap, ◌∙◌, arith}
use Rattle.std.proofs.lemmas.Int.{ints}
use lib.Signed.{◌<ℤ◌}
use mir.Val.{of_z}
use mir.Syntax.{w64}
use lib.IntN.{◌-ℤ◌}
use Rattle.value.specs.declared.end.End.TheVariants.{Unknown, On}
use Rattle.meaning.specs.declared.duties.Duty.{Duty}
use Rattle.meaning.specs.Work.{Work, Outcome, plain, numbered}
use Rattle.meaning.specs.Effects.{open_span}
use Rattle.meaning.specs.Rules.{for_rule, while_rule}

-- a `while` whose test is not 0 opens a span that is followed by the `while` itself
pub while_opens : (d f : Duty) (p : ℕ) (v : ℤ) (w : Work) (o : Outcome) → (of_z w64 v ≡ 0 → ⊥) → f ≡ plain d.statement d.span
    → o ≡ open_span (record { by = d.statement; body = p; starts = On; follower = f }) w → o ≡ while_rule d p v w
while_opens d f p (pos zero) w o n m e = absurd (n refl)
while_opens d f p (pos (suc k)) w o n m e = e ∙ ap (λ (y : Duty). open_span (record { by = d.statement; body = p; starts = On; follower = y }) w) m
while_opens d f p (negsuc k) w o n m e = e ∙ ap (λ (y : Duty). open_span (record { by = d.statement; body = p; starts = On; follower = y }) w) m

-- a `for` with more than no rounds to go opens a span that is followed by one round less
pub for_opens : (d f : Duty) (p : ℕ) (v u : ℤ) (w : Work) (o : Outcome) → pos 0 <ℤ v → u ≡ v -ℤ pos 1 → f ≡ numbered d.statement u d.span
    → o ≡ open_span (record { by = d.statement; body = p; starts = Unknown; follower = f }) w → o ≡ for_rule d p v w
for_opens d f p (pos zero) u w o h m n e = absurd (h.lt)
for_opens d f p (pos (suc k)) u w o h m n e = e ∙ ap (λ (y : Duty). open_span (record { by = d.statement; body = p; starts = Unknown; follower = y }) w) (n ∙ ap (λ (y : ℤ). numbered d.statement y d.span) (m ∙ less))
  where
    less : pos (suc k) -ℤ pos 1 ≡ pos k
    less = omega (arith, ints)
for_opens d f p (negsuc k) u w o h m n e = absurd (h.lt)
