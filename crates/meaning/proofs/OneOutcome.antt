-- Settling has one outcome.
use Rattle.std.proofs.Common.{◌≡◌, ℕ, Bool, true, false, sym, refl, ap, ◌∙◌, subst}
use Rattle.std.proofs.lemmas.Bool.{true≢false}
use Rattle.meaning.specs.Intervals.{Setting, width}
use Rattle.meaning.specs.Work.{Work, Outcome, stops, goes}
use Rattle.meaning.specs.Passes.{pass, Settles, rests, breaks, again}
use Rattle.meaning.specs.Runs.{Step, step_of, Steps}

-- whether an outcome asks for one more pass
abbrev asks : Outcome → Bool
asks (stops s) = false
asks (goes u c) = c

abbrev work_in : Work → Outcome → Work
work_in w (stops s) = w
work_in w (goes u c) = u

-- a settled work is unchanged by the last pass
pub settles_quiet : {S : Setting} {k : ℕ} {w : Work} {o : Outcome} → Settles S k w o → asks o ≡ false
settles_quiet (rests e) = refl
settles_quiet (breaks e) = refl
settles_quiet (again e s) = settles_quiet s

module _ {S : Setting} {k : ℕ} where
  -- a pass that asks for no more is the outcome
  ends_here : {w : Work} {o : Outcome} → Settles S k w o → asks (pass S k w) ≡ false → pass S k w ≡ o
  ends_here (rests e) h = e
  ends_here (breaks e) h = e
  ends_here (again e s) h = absurd (true≢false (sym (ap asks e) ∙ h))

  -- and one that asks is followed
  goes_on : {w : Work} {o : Outcome} → Settles S k w o → (u : Work) → pass S k w ≡ goes u true → Settles S k u o
  goes_on (rests e) u h = absurd (true≢false (ap asks (sym h ∙ e)))
  goes_on (breaks e) u h = absurd (true≢false (ap asks (sym h ∙ e)))
  goes_on (again {u = v} {o = o} e s) u h = subst (λ z. Settles S k z o) (ap (work_in u) (sym e ∙ h)) s

  pub settles_one : {w : Work} {o r : Outcome} → Settles S k w o → Settles S k w r → o ≡ r
  settles_one (rests e) t = sym e ∙ ends_here t (ap asks e)
  settles_one (breaks e) t = sym e ∙ ends_here t (ap asks e)
  settles_one (again {u = u} e s) t = settles_one s (goes_on t u e)

  -- so a state comes to one step
  pub steps_one : {w : Work} {s t : Step} → Steps S k w s → Steps S k w t → t ≡ s
  steps_one a b = sym b.comes ∙ ap (step_of (width S)) (settles_one b.settles a.settles) ∙ a.comes
