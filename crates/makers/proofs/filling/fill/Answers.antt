-- Each turn offers the next whole state; the first that is denied, or the last one, ends it.
use Rattle.std.proofs.Common.{◌≡◌, ℕ, true, sym, ap, ◌∙◌, arith, rules}
use Rattle.std.proofs.lemmas.List.{length_push}
use Rattle.record.specs.Rules.{fitting}
use Rattle.record.proofs.TakeRules.{allowed_of, of_fits}
use Rattle.makers.specs.Carried.{filled}
use Rattle.makers.proofs.FlatLists.{filled_on, filled_stop, filled_end}
use Rattle.makers.proofs.filling.fill.Given.{Over}
use Rattle.makers.proofs.filling.fill.Goals as goal
use Rattle.makers.proofs.filling.fill.Goals.{in-None, in-Some+then-not-take}

pub loop-state-preserved : goal.loop-state-preserved
loop-state-preserved g c =
    let R = g.R.Recorder in
    let w = c.args.width in
    let r = c.loop-state.recorder in
    let s = c.in-Some.state.now in
    let inv = c.loop-state.invariant in
    let steps = c.in-Some.ensures.steps in
    let t = c.if-not-take.ensures in
    let fits : fitting (R.room_left r) w s ≡ true = sym (t.answer ∙ ap (λ (y : ℕ). fitting (R.room_left r) y s) inv.2) in
    let room = of_fits (R.room_left r) w s fits in
    let count = length_push (R.states r) s in
    let on = filled_on (R.room_left r) w c.loop-state.state-iterator.rest.now s c.next.new.self.rest.now (R.states r) _ (allowed_of w (sym c.if-not-start.ensures.answer)).0 steps.1.0 (steps.1.1 ∙ inv.1) fits inv.0 in
    search rules

-- what is recorded at the end is what is filled from all
full : (g : Over) (c : goal.After-count g) → g.R.Recorder.states c.match-next.recorder ≡ filled (g.R.Recorder.capacity c.args.recorder.now c.args.width) c.args.width c.args.numbers.now
full g c =
    let R = g.R.Recorder in
    let w = c.args.width in
    let r = c.loop-state.recorder in
    let rest = c.loop-state.state-iterator.rest.now in
    let inv = c.loop-state.invariant in
    let b = c.if-not-start.ensures in
    let all = inv.0 ∙ ap (λ (y : ℕ). filled y w c.args.numbers.now) b.roomy in
    elim c.match-next.branch [
      | in-None v ↦ ap R.states v.recorder-is ∙ filled_end (R.room_left r) w rest (R.states r) _ (omega (arith, v.in-None.ensures.steps.1.0, inv.1)) all
      | in-Some+then-not-take v ↦
          let t = v.if-not-take.ensures in
          let s = v.in-Some.state.now in
          let steps = v.in-Some.ensures.steps in
          ap R.states v.recorder-is ∙ t.listed ∙ filled_stop (R.room_left r) w rest s _ (R.states r) _ (allowed_of w (sym b.answer)).0 steps.1.0 (steps.1.1 ∙ inv.1) (sym (t.answer ∙ ap (λ (y : ℕ). fitting (R.room_left r) y s) inv.2)) all
    ]

pub returns-clause-answer : goal.returns-clause-answer
returns-clause-answer g c = let e = full g c in search rules

pub returns-clause-listed : goal.returns-clause-listed
returns-clause-listed g c = let e = full g c in search rules
