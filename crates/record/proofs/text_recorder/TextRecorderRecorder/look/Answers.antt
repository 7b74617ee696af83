-- A value that is there stands in its line; else the state or the variable is not there.
use Rattle.std.proofs.Common.{ℤ, Some, ap, take, w64, FitsSigned, ◌∙◌, rules}
use Rattle.std.proofs.lemmas.Int.{to_z-of_z}
use Rattle.record.proofs.ValuePlaces.{look_inside, look_past, look_wide}
use Rattle.record.proofs.text_recorder.TextRecorderRecorder.look.Goals as goal
use Rattle.record.proofs.text_recorder.TextRecorderRecorder.look.Goals.{else-state-self-via-then-state-self+else-variable-self, else-state-self-via-else-state-self}

pub returns-then-variable-self : goal.returns-then-variable-self
returns-then-variable-self c =
    let s = c.args.self.now in
    let f : FitsSigned w64 c.read_number_at.result = search rules in
    let r = to_z-of_z w64 c.read_number_at.result f ∙ c.read_number_at.ensures in
    ap (λ (z : ℤ). Some z) r ∙ look_inside s.width s.count c.args.state c.args.variable (take s.written_length s.memory.now) c.if-state-self.true c.if-variable-self.true

pub returns-else-state-self : goal.returns-else-state-self
returns-else-state-self c =
    let s = c.args.self.now in
    let t = take s.written_length s.memory.now in
    elim c.else-state-self.branch [
      | else-state-self-via-then-state-self+else-variable-self w ↦ look_wide s.width s.count c.args.state c.args.variable t w.if-state-self.true w.if-variable-self.false
      | else-state-self-via-else-state-self w ↦ look_past s.width s.count c.args.state c.args.variable t w.if-state-self.false
    ]
