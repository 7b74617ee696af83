-- The state's text has the bytes that are kept for it, and stands behind the others.
use Rattle.std.proofs.Common.{ℕ, ◌≡◌, length, take, pos, sym, ap, arith, rules}
use Rattle.record.specs.StatesText.{text_capacity}
use Rattle.record.proofs.TextLengths.{text_short, text_fits, next_state, next_fits}
use Rattle.record.proofs.PlacedParts.{byte_ahead, byte_behind}
use Rattle.record.proofs.RecordTexts.{listed_more, told_more}
use Rattle.record.proofs.text_recorder.TextRecorderRecorder.take.Goals as goal

pub put_state-written_length-requires : goal.put_state-written_length-requires
put_state-written_length-requires c =
    let s = c.args.self.now in
    let fits = next_fits s.count s.room s.width (length s.memory.now) s.written_length (omega arith) s.whole s.short in
    let short = text_short s.count s.width c.args.state.now (omega (arith, s.whole)) s.wide.1 c.if-state-self.false (sym c.if-not-all_small.ensures) in
    omega (arith, fits, short)

pub invariant_of-self-clause-short : goal.invariant_of-self-clause-short
invariant_of-self-clause-short c =
    let s = c.args.self.now in
    let short = text_short s.count s.width c.args.state.now (omega (arith, s.whole)) s.wide.1 c.if-state-self.false (sym c.if-not-all_small.ensures) in
    omega (arith, s.short, next_state s.count s.width, short, c.put_state-written_length.ensures.end)

pub invariant_of-self-clause-told : goal.invariant_of-self-clause-told
invariant_of-self-clause-told c =
    let s = c.args.self.now in
    told_more s.width s.count (take s.written_length s.memory.now) _ c.args.state.now s.wide.1 (omega (arith, s.whole)) s.told c.if-state-self.false (sym c.if-not-all_small.ensures) c.put_state-written_length.ensures.front

pub returns-clause-listed : goal.returns-clause-listed
returns-clause-listed c =
    let s = c.args.self.now in
    listed_more s.width s.count (take s.written_length s.memory.now) _ c.args.state.now s.wide.1 (omega (arith, s.whole)) s.told c.if-state-self.false (sym c.if-not-all_small.ensures) c.put_state-written_length.ensures.front

pub returns-clause-kept : goal.returns-clause-kept
returns-clause-kept c = λ k h.
    let s = c.args.self.now in
    ap pos (byte_ahead _ s.memory.now c.put_state-written_length.new.bytes s.written_length c.put_state-written_length.result k c.put_state-written_length.ensures h (text_fits s.count s.room s.width (length s.memory.now) s.written_length s.whole s.short))

pub returns-clause-owner : goal.returns-clause-owner
returns-clause-owner c =
    let s = c.args.self.now in
    let long : length c.put_state-written_length.new.bytes ≡ length s.memory.now = search rules in
    record {
      fixed = λ w. ap (λ (n : ℕ). text_capacity n w) long;
      held = search rules;
      untouched = λ k h. ap pos (byte_behind _ s.memory.now c.put_state-written_length.new.bytes s.written_length c.put_state-written_length.result k c.put_state-written_length.ensures h);
    }
