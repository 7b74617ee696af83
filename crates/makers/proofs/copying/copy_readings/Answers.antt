-- The front of the values is the state of the readings.
use Rattle.std.proofs.Common.{◌≡◌, ℕ, take, pos, ap, ◌∙◌, arith, rules, tests}
use Rattle.makers.specs.Carried.{or_zero, read_state}
use Rattle.makers.proofs.FlatLists.{made_front}
use Rattle.makers.proofs.copying.copy_readings.Given.{Over}
use Rattle.makers.proofs.copying.copy_readings.Goals as goal

-- the values that are offered
offered : (g : Over) (c : goal.After-take g) → take c.width-width.result c.from_fn-values.result ≡ read_state (g.F.Feed.readings c.args.feed.now) c.args.state (g.R.Recorder.state_width c.args.recorder.now)
offered g c =
    let rd = g.F.Feed.readings c.args.feed.now in
    let w = c.width-width.ensures in
    made_front _ (λ (v : ℕ). or_zero (rd v c.args.state)) _ c.from_fn-values.result (pos 0) c.width-width.result 16 (omega (arith, w.answer, w.allowed)) (λ x y q r. (search (rules, tests), λ p. search (rules, tests))) c.from_fn-values.ensures.items
    ∙ ap (read_state rd c.args.state) w.answer

pub returns-clause-answer : goal.returns-clause-answer
returns-clause-answer g c = let e = offered g c in search rules

pub returns-clause-listed : goal.returns-clause-listed
returns-clause-listed g c = let e = offered g c in search rules
