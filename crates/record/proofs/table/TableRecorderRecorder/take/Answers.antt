-- The state is one row more.
use Rattle.std.proofs.Common.{◌≡◌, ℕ, ◌+◌, ◌-◌, ◌*◌, length, sym, ap, ◌∙◌, arith, rules}
use borrow.Rule.Slice.PartMut.{put_mid}
use Rattle.record.specs.Rows.{table_capacity}
use Rattle.record.proofs.TableRows.{next_fits, rows_more}
use Rattle.record.proofs.table.TableRecorderRecorder.take.Goals as goal

pub returns-clause-listed : goal.returns-clause-listed
returns-clause-listed c =
    let s = c.args.self.now in
    let e = rows_more s.width s.count (s.count * s.width + s.width - s.count * s.width) s.memory.now c.args.state.now (omega arith) c.if-state-self.false (next_fits s.count s.room s.width (length s.memory.now) (omega arith) s.whole) in
    search rules

pub invariant_of-self : goal.invariant_of-self
invariant_of-self c =
    let s = c.args.self.now in
    let m = put_mid (s.count * s.width) (s.count * s.width + s.width - s.count * s.width) s.memory.now c.copy_from_slice.new.self in
    let l : length m ≡ length s.memory.now = search rules in
    let n : s.count + 1 + (s.room - 1) ≡ s.count + s.room = omega (arith, c.if-self-eq0.false) in
    record { wide = s.wide; whole = n ∙ s.whole ∙ ap (λ (y : ℕ). table_capacity y s.width) (sym l) }
