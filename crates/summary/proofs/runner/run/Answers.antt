-- An engine that is idle begins, and the advance is the first.
use Rattle.std.proofs.Common.{◌≡◌, Ok, rules}
use Rattle.calls.specs.Standing.{recording}
use Rattle.calls.specs.Published.{published, to_advance}
use Rattle.engine.specs.Meant.{meant}
use Rattle.summary.proofs.FirstRuns.{begin_not_denied, from_the_first}
use Rattle.summary.proofs.runner.run.Goals as goal

pub returns-in_err-map_err-clause-whole : goal.returns-in_err-map_err-clause-whole
returns-in_err-map_err-clause-whole g c =
    absurd (begin_not_denied _ (meant c.args.engine.now) _ _ _ c.begin.result c.requires.idle c.begin.ensures.outcome (search rules))

pub returns-in_err-map_err-clause-sheet : goal.returns-in_err-map_err-clause-sheet
returns-in_err-map_err-clause-sheet g c =
    absurd (begin_not_denied _ (meant c.args.engine.now) _ _ _ c.begin.result c.requires.idle c.begin.ensures.outcome (search rules))

pub returns-clause-whole : goal.returns-clause-whole
returns-clause-whole g c =
    let R = g.R.Recorder in
    let begun : c.begin.result ≡ Ok tt = search rules in
    (from_the_first (R.capacity c.args.recorder.now) (g.F.Feed.readings c.args.feed.now) c.args.states (meant c.args.engine.now) (meant c.begin.new.self) (meant c.advance.new.self) (recording R.states R.state_width R.room_left c.args.recorder.now)
    (recording R.states R.state_width R.room_left c.begin.new.recorder) (recording R.states R.state_width R.room_left c.advance.new.recorder) c.begin.result (published (to_advance c.advance.result)) c.requires.idle begun c.begin.ensures.outcome c.advance.ensures.outcome).0

pub returns-clause-sheet : goal.returns-clause-sheet
returns-clause-sheet g c =
    let R = g.R.Recorder in
    let begun : c.begin.result ≡ Ok tt = search rules in
    (from_the_first (R.capacity c.args.recorder.now) (g.F.Feed.readings c.args.feed.now) c.args.states (meant c.args.engine.now) (meant c.begin.new.self) (meant c.advance.new.self) (recording R.states R.state_width R.room_left c.args.recorder.now)
    (recording R.states R.state_width R.room_left c.begin.new.recorder) (recording R.states R.state_width R.room_left c.advance.new.recorder) c.begin.result (published (to_advance c.advance.result)) c.requires.idle begun c.begin.ensures.outcome c.advance.ensures.outcome).1
