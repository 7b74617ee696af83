-- The sheet of a new engine keeps the limits. Assumes nothing.
use Rattle.std.proofs.Common.{◌≡◌, zero, suc, List, [], sym, refl, subst, arith}
use Rattle.std.specs.Fmt.{digits}
use Rattle.sheet.specs.declared.elements.Variable.{Variable}
use Rattle.sheet.specs.declared.elements.Expression.{Expression}
use Rattle.sheet.specs.declared.elements.Statement.{Statement}
use Rattle.sheet.specs.Limits.{VariablesOk, StatementsOk, Limits}
use Rattle.sheet.specs.Tables.{first_sheet}

one_variable : VariablesOk first_sheet.variables
one_variable zero h = refl
one_variable (suc k) h = absurd (omega arith)

one_statement : StatementsOk 1 0 first_sheet.statements
one_statement zero h = refl
one_statement (suc k) h = absurd (omega arith)

first_limits : Limits first_sheet
unfolding digits
first_limits = record {
  counts = (omega arith, omega arith, omega arith, omega arith, omega arith);
  variables = one_variable;
  expressions = λ k h. absurd (omega arith);
  sizes = λ k h. absurd (omega arith);
  statements = one_statement;
  run = omega arith;
  text = omega arith;
}

-- the same of tables that hold this sheet
pub founded : (vs : List Variable) (es : List Expression) (ss : List Statement) → vs ≡ first_sheet.variables → es ≡ [] → ss ≡ first_sheet.statements → Limits (record { variables = vs; expressions = es; statements = ss; run = 0 })
founded vs es ss a b c = subst Limits (λ i. record { variables = sym a i; expressions = sym b i; statements = sym c i; run = 0 }) first_limits
