-- What stands in the bytes once the recorder is gone is the text of the record.
use Rattle.std.proofs.Common.{◌≡◌, ℕ, length, take, ap, ◌∙◌, arith, rules}
use Rattle.engine.specs.Meant.{meant}
use Rattle.record.specs.ReadingBack.{read_states}
use Rattle.record.specs.StatesText.{text_capacity}
use Rattle.record.proofs.ReadBack.{none_read}
use Rattle.summary.specs.Shown.{WritesFront}
use Rattle.summary.proofs.ShownRuns.{come_of, behind_of, inside_of}
use Rattle.summary.proofs.shown.record_text.Goals as goal

pub returns : goal.returns
returns g c =
    let t = c.new-recorder.result in
    let e = c.new-recorder.ensures in
    let none = ap (λ (n : ℕ). read_states t.width n (take t.written_length t.memory.now)) e.empty ∙ none_read t.width (take t.written_length t.memory.now) in
    let u = c.run_text-closing.new.recorder in
    let l = c.length.ensures in
    let long : length u.memory.now ≡ length c.args.bytes.now = search rules in
    let behind = behind_of c.length.result c.args.bytes.now u.memory.now 0 long (λ k h. let q = c.run_text-closing.ensures.owner.untouched k (omega (arith, h, l.reached)) in cc (q, e.holds)) in
    let front : WritesFront c.length.result c.args.bytes.now u.memory.now = record { inside = inside_of _ u.memory.now _ l.told l.answer; behind = behind } in
    record { recorder = _; come = come_of _ (g.F.Feed.readings c.args.feed.now) c.args.states text_capacity _ (length c.args.bytes.now) _ t.width t.room c.run_text-closing.result _ (meant c.args.engine.now) (meant c.run_text-closing.new.engine) (ap length e.holds) none e.wide e.roomy c.run_text-closing.ensures.come; kept = search rules; front = search rules }
