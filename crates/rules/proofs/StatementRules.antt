-- A statement that is read from a sheet keeps its rules.
use Rattle.std.proofs.Common.{◌≡◌, ℕ, true, List, length, Some, subst, ap, ◌∙◌}
use Rattle.std.specs.List.{slice_get}
use Rattle.std.proofs.lemmas.Option.{slice_get_within, get_or_from_slice_get}
use Rattle.sheet.specs.declared.elements.Variable.{Variable}
use Rattle.sheet.specs.declared.elements.Expression.{Expression}
use Rattle.sheet.specs.declared.elements.Statement.{Statement}
use Rattle.sheet.specs.declared.elements.Statement.TheVariants.{True}
use Rattle.sheet.specs.Limits.{statement_ok, StatementsOk}

pub proper_as : (n m : ℕ) (vs : List Variable) (es : List Expression) (ss : List Statement) (p : ℕ) (st : Statement) → StatementsOk (length vs) (length es) ss
    → n ≡ length vs → m ≡ length es → slice_get ss p ≡ Some st → statement_ok n m p st ≡ true
proper_as n m vs es ss p st ok a b e =
    ap (λ (z : ℕ). statement_ok z m p st) a ∙ ap (λ (z : ℕ). statement_ok (length vs) z p st) b
    ∙ subst (λ (z : Statement). statement_ok (length vs) (length es) p z ≡ true) (get_or_from_slice_get ss p st True e) (ok p (slice_get_within ss p st e))
