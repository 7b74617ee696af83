-- The tables that are ready are a work in order; those of the next state, or of state 0 after a stop, are ready again.
use Rattle.std.proofs.Common.{refl, ap, arith}
use Rattle.meaning.specs.Intervals.{under}
use Rattle.meaning.specs.Work.{Work}
use Rattle.board.specs.Work.{work_of, store}
use Rattle.settling.proofs.VisitsKeepOrder.{limits_of}
use Rattle.settling.proofs.ReadyTables.{ready_well_formed, first_ready, next_ready}
use Rattle.settling.proofs.SerialsOpened.{next_few_serials}
use Rattle.settling.proofs.settler.Settler.step.Goals as goal
use Rattle.sheet.specs.ContentOf.{content_of}

pub settle_state-settled-requires : goal.settle_state-settled-requires
settle_state-settled-requires g c =
    let s = c.args.self.now in
    ready_well_formed (under (content_of c.args.sheet.now) (g.F.Feed.readings c.args.feed.now)) (store s.board) s.board.ordered s.ready

pub turn-requires : goal.turn-requires
turn-requires g c =
    let s = c.args.self.now in
    let S = under (content_of c.args.sheet.now) (g.F.Feed.readings c.args.feed.now) in
    omega (arith, next_few_serials S s.state s.board c.settle_state-settled.new.board c.in-Ok.ensures.settles s.few_serials)

pub invariant_of-self : goal.invariant_of-self
invariant_of-self g c =
    let s = c.args.self.now in
    let b = c.settle_state-settled.new.board in
    let S = under (content_of c.args.sheet.now) (g.F.Feed.readings c.args.feed.now) in
    let h = c.in-Ok.ensures.settles in
    record {
      ready = next_ready S (limits_of c.args.sheet.now) s.state (work_of s.board) (work_of b) (store c.turn.new.self) (ready_well_formed S (store s.board) s.board.ordered s.ready) h c.turn.ensures;
      few_serials = omega (arith, next_few_serials S s.state s.board b h s.few_serials, ap (λ (w : Work). w.next) c.turn.ensures);
    }

pub invariant_of-self-in-Err : goal.invariant_of-self-in-Err
invariant_of-self-in-Err g c = record { ready = first_ready 0 (store c.begin.new.self) c.begin.ensures; few_serials = omega (arith, ap (λ (w : Work). w.next) c.begin.ensures) }

pub returns-in-Ok-clause-counted : goal.returns-in-Ok-clause-counted
returns-in-Ok-clause-counted g c = rw c.in-Ok.is refl

pub returns-in-Ok-clause-steps : goal.returns-in-Ok-clause-steps
returns-in-Ok-clause-steps g c = rw (c.in-Ok.is, c.turn.ensures) c.in-Ok.ensures.steps
