-- Variables in the order of their names are totally ordered. Assumes nothing.
use Rattle.std.proofs.Common.{◌≡◌, refl}
use Rattle.std.proofs.lemmas.Cmp.{on_total, nat_list_cmp_total}
use Rattle.std.specs.declared.cmp.Ordering.{Ordering}
use Rattle.std.specs.Cmp.{IsTotalOrder}
use Rattle.std.specs.Cmp.Lexicographic.{slice_cmp}
use Rattle.std.specs.Ordering.{nat_cmp}
use Rattle.sheet.specs.declared.elements.Variable.{Variable}
use Rattle.sheet.specs.contracts.elements.NameOrd.TheImpl as NameOrd

-- the comparison by name
abbrev pub by_name : Variable → Variable → Ordering
by_name v w = slice_cmp nat_cmp v.name.letters w.name.letters

-- it is the order that names derive
pub derived_name : (v w : Variable) → NameOrd.cmp-value.it v.name w.name ≡ by_name v w
derived_name v w = refl

-- and a total one
pub fair_name : IsTotalOrder by_name
fair_name = on_total (λ (v : Variable). v.name.letters) nat_list_cmp_total
