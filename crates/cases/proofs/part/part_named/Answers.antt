-- The words ahead did not fit the key, and this one does.
use Rattle.std.proofs.Common.{refl}
use Rattle.cases.proofs.part.part_named.Goals as goal
use Rattle.cases.proofs.part.part_named.Goals.{then-same-7, else-same-7}

pub returns-then-same : goal.returns-then-same
returns-then-same c = rw (← c.if-same.ensures) refl

pub returns-then-same-2 : goal.returns-then-same-2
returns-then-same-2 c = rw (← c.if-same.ensures, ← c.if-same-2.ensures) refl

pub returns-then-same-3 : goal.returns-then-same-3
returns-then-same-3 c = rw (← c.if-same.ensures, ← c.if-same-2.ensures, ← c.if-same-3.ensures) refl

pub returns-then-same-4 : goal.returns-then-same-4
returns-then-same-4 c = rw (← c.if-same.ensures, ← c.if-same-2.ensures, ← c.if-same-3.ensures, ← c.if-same-4.ensures) refl

pub returns-then-same-5 : goal.returns-then-same-5
returns-then-same-5 c = rw (← c.if-same.ensures, ← c.if-same-2.ensures, ← c.if-same-3.ensures, ← c.if-same-4.ensures, ← c.if-same-5.ensures) refl

pub returns-then-same-6 : goal.returns-then-same-6
returns-then-same-6 c = rw (← c.if-same.ensures, ← c.if-same-2.ensures, ← c.if-same-3.ensures, ← c.if-same-4.ensures, ← c.if-same-5.ensures, ← c.if-same-6.ensures) refl

pub returns-then-same-8 : goal.returns-then-same-8
returns-then-same-8 c =
    rw (← c.if-same.ensures, ← c.if-same-2.ensures, ← c.if-same-3.ensures, ← c.if-same-4.ensures, ← c.if-same-5.ensures, ← c.if-same-6.ensures)
    (elim c.if-same-7.branch [
      | then-same-7 w ↦ rw (← w.if-same-7.ensures) refl
      | else-same-7 w ↦ rw (← w.if-same-7.ensures, ← w.same-else-same-7.ensures, ← w.value-is, c.if-same-8.true) refl
    ])

pub returns-else-same-8 : goal.returns-else-same-8
returns-else-same-8 c =
    rw (← c.if-same.ensures, ← c.if-same-2.ensures, ← c.if-same-3.ensures, ← c.if-same-4.ensures, ← c.if-same-5.ensures, ← c.if-same-6.ensures)
    (elim c.if-same-7.branch [
      | then-same-7 w ↦ (cc (w.value-is, w.if-same-7.true, c.if-same-8.false))
      | else-same-7 w ↦ rw (← w.if-same-7.ensures, ← w.same-else-same-7.ensures, ← w.value-is, c.if-same-8.false) refl
    ])
