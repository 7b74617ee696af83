-- What is done with a text, by what comes of it.
use Rattle.std.proofs.Common.{Result, refl, sym, subst}
use Rattle.sheet.specs.Content.{Content}
use Rattle.load.specs.declared.refusals.Refusal.{Refusal}
use Rattle.summary.specs.declared.closing.Closing.TheVariants.{NotLoaded, Advanced}
use Rattle.calls.specs.Calls.{Abandons}
use Rattle.calls.specs.Standing.{Meant, recording}
use Rattle.calls.specs.Published.{published, to_abandon}
use Rattle.engine.specs.Meant.{meant}
use Rattle.summary.specs.Shown.{RunOrRefusal}
use Rattle.summary.proofs.ShownRuns.{loaded_after, refused_after}
use Rattle.summary.proofs.runner.run_text.Goals as goal

pub returns-in-Ok-clause-come : goal.returns-in-Ok-clause-come
returns-in-Ok-clause-come g c =
    let R = g.R.Recorder in
    let v = loaded_after c.args.text.now (meant c.args.engine.now) (meant c.abandon.new.self) (meant c.load.new.self) (published (to_abandon c.abandon.result)) c.abandon.ensures c.in-Ok.ensures in
    let before = recording R.states R.state_width R.room_left c.args.recorder.now in
    let after = recording R.states R.state_width R.room_left c.run.new.recorder in
    let a = c.run.result in
    subst (λ (z : Result Content Refusal). RunOrRefusal z (g.F.Feed.readings c.args.feed.now) c.args.states (R.capacity c.args.recorder.now) before (Advanced a) after (meant c.args.engine.now) (meant c.run.new.engine)) (sym v)
    (a, refl, record { settled = c.run.ensures.whole; sheet = c.run.ensures.sheet })

pub returns-in-Err-clause-come : goal.returns-in-Err-clause-come
returns-in-Err-clause-come g c =
    let R = g.R.Recorder in
    let x = c.in-Err.reason in
    let a = published (to_abandon c.abandon.result) in
    let r = refused_after c.args.text.now (meant c.args.engine.now) (meant c.abandon.new.self) (meant c.load.new.self) a x c.abandon.ensures c.in-Err.ensures in
    let before = recording R.states R.state_width R.room_left c.args.recorder.now in
    let given_up = subst (λ (m : Meant). Abandons (meant c.args.engine.now) a m) (sym r.kept) c.abandon.ensures in
    subst (λ (z : Result Content Refusal). RunOrRefusal z (g.F.Feed.readings c.args.feed.now) c.args.states (R.capacity c.args.recorder.now) before (NotLoaded x) before (meant c.args.engine.now) (meant c.load.new.self)) (sym r.verdict)
    (x, refl, r.told, refl, (a, given_up))
