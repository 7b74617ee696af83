-- Each visit is the next one, and keeps what the invariant says; the places end with the list.
use Rattle.std.proofs.Common.{◌≡◌, ◌<◌, ◌≤◌, suc, ◌+◌, ◌||◌, length, get_or, sym, ap, ◌∙◌, subst, arith}
use Rattle.std.proofs.lemmas.Option.{slice_get_within}
use Rattle.std.proofs.lemmas.Result.{err_from_is_err_and}
use Rattle.meaning.specs.Work.{also}
use Rattle.meaning.proofs.Extending.{later_refl, later_trans}
use Rattle.board.specs.Work.{work_of}
use Rattle.settling.specs.Walks.{visit_from, SkippedBy}
use Rattle.settling.proofs.ListVisits.{over_skip, from_skip, from_start, from_next, from_stop, from_over, skip_within, leads_past, skipped_later, skipped_longer}
use Rattle.settling.proofs.visits.visit_all.Goals as goal
use Rattle.settling.proofs.visits.visit_all.Goals.{then-visit, else-visit}

pub returns-in_err-visit-clause-visited : goal.returns-in_err-visit-clause-visited
returns-in_err-visit-clause-visited g c =
    let V = g.P.Visitor in
    let v = V.visited c.args.pass.now in
    let l = c.loop-item in
    let w = work_of l.board in
    let n = suc V.most in
    let o = visit_from V.items v n 0 (work_of c.args.board.now) in
    let h : l.place < n = omega (arith, slice_get_within (V.items w) l.place c.in-Some.item (sym c.in-Some.ensures.found), c.item.ensures.few) in
    let p = err_from_is_err_and c.from_residual.result c.from_residual.ensures.1 in
    let q = from_skip V.items v n l.from l.place w l.skips l.changed o l.invariant.skipped l.invariant.leads h l.invariant.going in
    rw (p.1, p.2) (from_stop V.items v n l.place c.in-Some.item w c.in_err-visit.field-0.0 l.changed o h (sym c.in-Some.ensures.found) c.in_err-visit.ensures.visited q)

pub loop-item-init : goal.loop-item-init
loop-item-init g c =
    let V = g.P.Visitor in
    let w = work_of c.args.board.now in
    record {
      going = from_start V.items (V.visited c.args.pass.now) (suc V.most) w;
      skipped = c.requires.skipped;
      leaves = record { well_formed = λ S m t. t; later = later_refl w };
      leads = c.next_place-place.ensures;
      within = omega arith;
    }

pub visit-requires-clause-well_formed : goal.visit-requires-clause-well_formed
visit-requires-clause-well_formed g c = let t = c.requires.well_formed in (t.0, t.1, c.loop-item.invariant.leaves.well_formed t.0 t.1 t.2)

pub lengthen-requires-clause-from : goal.lengthen-requires-clause-from
lengthen-requires-clause-from g c =
    let l = c.loop-item in
    omega (arith, slice_get_within (g.P.Visitor.items (work_of l.board)) l.place c.in-Some.item (sym c.in-Some.ensures.found), c.item.ensures.few, c.requires.long, l.auto.skips, l.invariant.leads)

pub lengthen-requires-clause-place : goal.lengthen-requires-clause-place
lengthen-requires-clause-place g c =
    let l = c.loop-item in
    omega (arith, slice_get_within (g.P.Visitor.items (work_of l.board)) l.place c.in-Some.item (sym c.in-Some.ensures.found), c.item.ensures.few, c.requires.long, l.auto.skips)

pub lengthen-requires-clause-short : goal.lengthen-requires-clause-short
lengthen-requires-clause-short g c =
    let V = g.P.Visitor in
    let l = c.loop-item in
    let w = work_of l.board in
    let i = slice_get_within (V.items w) l.place c.in-Some.item (sym c.in-Some.ensures.found) in
    let s = skip_within V.items (V.visited c.args.pass.now) w l.skips (l.place + 1) l.invariant.skipped (omega (arith, i)) in
    omega (arith, s, c.item.ensures.few, l.invariant.leads, g.met.P.Visitor.small)

-- after a visit that waits the walk goes on past its item, and else the skip leads past it
past : (g : _) (c : goal.After-next_place-place-in-Some g) → (c.if-visit.from ≤ c.loop-item.place + 1) × (c.loop-item.place < c.if-visit.from + get_or c.if-visit.skips c.if-visit.from 0)
past g c =
    let l = c.loop-item in
    let i = slice_get_within (g.P.Visitor.items (work_of l.board)) l.place c.in-Some.item (sym c.in-Some.ensures.found) in
    elim c.if-visit.branch [
      | then-visit w ↦
          let s = leads_past l.skips c.if-visit.skips l.from l.place l.invariant.leads (omega (arith, i, c.item.ensures.few, c.requires.long, l.auto.skips, l.invariant.leads)) (w.skips-is ∙ w.lengthen.ensures) in
          let e : get_or c.if-visit.skips c.if-visit.from 0 ≡ get_or c.if-visit.skips l.from 0 = ap (λ z. get_or c.if-visit.skips z 0) w.from-is in
          (omega (arith, w.from-is, l.invariant.leads), omega (arith, w.from-is, s, e))
      | else-visit w ↦ (omega (arith, w.from-is), omega (arith, w.from-is))
    ]

-- and the skips are right
right : (g : _) (c : goal.After-next_place-place-in-Some g) → SkippedBy g.P.Visitor.items (g.P.Visitor.visited c.args.pass.now) (work_of c.visit.new.board) c.if-visit.skips
right g c =
    let V = g.P.Visitor in
    let v = V.visited c.args.pass.now in
    let l = c.loop-item in
    let w = work_of l.board in
    let u = work_of c.visit.new.board in
    let e = c.in_ok-visit.ensures in
    let t = sym c.in-Some.ensures.found in
    let i = slice_get_within (V.items w) l.place c.in-Some.item t in
    elim c.if-visit.branch [
      | then-visit b ↦ subst (SkippedBy V.items v u) (sym (b.skips-is ∙ b.lengthen.ensures))
          (skipped_longer V.items v g.met.P.Visitor.stays l.from l.place c.in-Some.item w u l.skips l.invariant.leads (omega (arith, i, c.item.ensures.few, c.requires.long, l.auto.skips, l.invariant.leads)) t (e.vain b.if-visit.true) e.leaves.later l.invariant.skipped)
      | else-visit b ↦ subst (SkippedBy V.items v u) (sym b.skips-is) (skipped_later V.items v g.met.P.Visitor.stays w u l.skips e.leaves.later l.invariant.skipped)
    ]

pub loop-item-smaller : goal.loop-item-smaller
loop-item-smaller g c =
    let l = c.loop-item in
    omega (arith, slice_get_within (g.P.Visitor.items (work_of l.board)) l.place c.in-Some.item (sym c.in-Some.ensures.found), c.item.ensures.few, c.next_place-place-in-Some.ensures, (past g c).1)

pub loop-item-preserved : goal.loop-item-preserved
loop-item-preserved g c =
    let V = g.P.Visitor in
    let v = V.visited c.args.pass.now in
    let l = c.loop-item in
    let e = c.in_ok-visit.ensures in
    let w = work_of l.board in
    let u = work_of c.visit.new.board in
    let skips = c.if-visit.skips in
    let r = right g c in
    let from = c.if-visit.from in
    let n = suc V.most in
    let o = visit_from V.items v n 0 (work_of c.args.board.now) in
    let i = slice_get_within (V.items w) l.place c.in-Some.item (sym c.in-Some.ensures.found) in
    let h : l.place < n = omega (arith, i, c.item.ensures.few) in
    let q = from_skip V.items v n l.from l.place w l.skips l.changed o l.invariant.skipped l.invariant.leads h l.invariant.going in
    let s = past g c in
    let k : l.place + 1 < n = omega (arith, i, c.item.ensures.few) in
    let p = over_skip V.items v n from (l.place + 1) u skips r s.0 (omega (arith, s.1)) k in
    let j = slice_get_within (V.items u) l.place c.in-Some.item (g.met.P.Visitor.stays w u e.leaves.later l.place c.in-Some.item (sym c.in-Some.ensures.found)) in
    record {
      going = ap (also (l.changed || c.in_ok-visit.visit.changed)) p ∙ from_next V.items v n l.place c.in-Some.item w u l.changed c.in_ok-visit.visit.changed o h (sym c.in-Some.ensures.found) e.visited q;
      skipped = r;
      leaves = record { well_formed = λ S m t. e.leaves.well_formed S m (l.invariant.leaves.well_formed S m t); later = later_trans l.invariant.leaves.later e.leaves.later };
      leads = c.next_place-place-in-Some.ensures;
      within = omega (arith, j, s.0);
    }

pub returns-clause-visited : goal.returns-clause-visited
returns-clause-visited g c =
    let V = g.P.Visitor in
    let v = V.visited c.args.pass.now in
    let l = c.loop-item in
    let w = work_of l.board in
    let n = suc V.most in
    let o = visit_from V.items v n 0 (work_of c.args.board.now) in
    let h : l.place < n = omega (arith, skip_within V.items v w l.skips l.from l.invariant.skipped l.invariant.within, l.invariant.leads, c.item.ensures.few) in
    let q = from_skip V.items v n l.from l.place w l.skips l.changed o l.invariant.skipped l.invariant.leads h l.invariant.going in
    from_over V.items v n l.place w l.changed o h (sym c.in_default.ensures.found) q

pub returns-clause-skipped : goal.returns-clause-skipped
returns-clause-skipped g c = c.loop-item.invariant.skipped

pub returns-clause-leaves : goal.returns-clause-leaves
returns-clause-leaves g c = c.loop-item.invariant.leaves

pub returns-in_err-visit-clause-skipped : goal.returns-in_err-visit-clause-skipped
returns-in_err-visit-clause-skipped g c = let p = err_from_is_err_and c.from_residual.result c.from_residual.ensures.1 in rw p.1 tt

pub returns-in_err-visit-clause-leaves : goal.returns-in_err-visit-clause-leaves
returns-in_err-visit-clause-leaves g c = let p = err_from_is_err_and c.from_residual.result c.from_residual.ensures.1 in rw p.1 tt

pub visit-requires-clause-there : goal.visit-requires-clause-there
visit-requires-clause-there g c = (c.loop-item.place, sym c.in-Some.ensures.found)

pub next_place-place-requires : goal.next_place-place-requires
next_place-place-requires g c = omega (arith, c.requires.long)

pub overflow_add-from : goal.overflow_add-from
overflow_add-from g c =
    let V = g.P.Visitor in
    omega (arith, slice_get_within (V.items (work_of c.loop-item.board)) c.loop-item.place c.in-Some.item (sym c.in-Some.ensures.found), c.item.ensures.few, g.met.P.Visitor.small)

pub next_place-place-requires-in-Some : goal.next_place-place-requires-in-Some
next_place-place-requires-in-Some g c =
    let l = c.loop-item in
    let i = slice_get_within (g.P.Visitor.items (work_of l.board)) l.place c.in-Some.item (sym c.in-Some.ensures.found) in
    elim c.if-visit.branch [
      | then-visit w ↦ omega (arith, i, c.item.ensures.few, c.requires.long, l.auto.skips, l.invariant.leads, w.from-is, ap length w.skips-is, w.lengthen.auto.skips)
      | else-visit w ↦ omega (arith, i, c.item.ensures.few, c.requires.long, l.auto.skips, w.from-is, ap length w.skips-is)
    ]
