-- There are as many states as were counted.
use Rattle.std.proofs.Common.{ℕ, ◌*◌, ◌≤◌, take, sym, subst}
use Rattle.record.specs.StatesText.{state_bytes}
use Rattle.record.proofs.ReadBack.{length_states}
use Rattle.record.proofs.text_recorder.TextRecorder.length.Goals as goal

pub returns-clause-short : goal.returns-clause-short
returns-clause-short c =
    let s = c.args.self.now in
    let P : ℕ → Type 0 = λ n. s.written_length ≤ n * state_bytes s.width in
    subst P (sym (length_states s.width s.count (take s.written_length s.memory.now))) s.short
