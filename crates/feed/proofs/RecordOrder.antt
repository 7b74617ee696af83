-- The order of records is total. Assumes nothing.
use Rattle.std.proofs.Common.{rules}
use Rattle.std.specs.Cmp.{IsTotalOrder}
use Rattle.std.specs.Cmp.Rules.{comparing}
use Rattle.std.specs.declared.cmp.Ordering.{Ordering}
use Rattle.std.specs.Ordering.{nat_cmp, on, then_cmp}
use Rattle.feed.specs.declared.list.Reading.{Reading}

-- records by their states, and by their variables where the states are equal
abbrev pub by_reading : Reading → Reading → Ordering
by_reading = then_cmp (on (λ (r : Reading). r.state) nat_cmp) (on (λ (r : Reading). r.variable) nat_cmp)

-- records by state, then variable, are totally ordered
pub fair_reading : IsTotalOrder by_reading
fair_reading = search (comparing, rules)
