-- What the lines so far say. Assumes nothing.
use Rattle.std.specs.Prelude.{ℕ, ◌<◌, List, [], ◌∷◌, ◌++◌, length, Some, None, vec_items, Option}
use Rattle.sheet.specs.declared.elements.Variable.{Variable}
use Rattle.sheet.specs.declared.elements.Expression.{Expression}
use Rattle.sheet.specs.declared.elements.Statement.{Statement}
use Rattle.sheet.specs.declared.draft.Draft.{Draft}
use Rattle.sheet.specs.declared.item.Item.{Item}

-- the variables, expressions with their sizes, and statements of the lines so far; the number of the run line, if there is one
pub record PartialSheet : Type 0 where
  pub variables : List Variable
  pub expressions : List Expression
  pub sizes : List ℕ
  pub statements : List Statement
  pub run : Option ℕ

-- what a draft holds
abbrev pub partial_sheet_of : Draft → PartialSheet
partial_sheet_of d = record {
  variables = vec_items d.tables.variables;
  expressions = vec_items d.tables.expressions;
  sizes = vec_items d.sizes;
  statements = vec_items d.tables.statements;
  run = d.run;
}

-- no line yet
abbrev pub no_lines : PartialSheet
no_lines = record { variables = []; expressions = []; sizes = []; statements = []; run = None }

-- one line more
abbrev pub extended : PartialSheet → Item → PartialSheet
extended d (Item.Variable v) = record { variables = d.variables ++ v ∷ []; expressions = d.expressions; sizes = d.sizes; statements = d.statements; run = d.run }
extended d (Item.Expression e n) = record { variables = d.variables; expressions = d.expressions ++ e ∷ []; sizes = d.sizes ++ n ∷ []; statements = d.statements; run = d.run }
extended d (Item.Statement s) = record { variables = d.variables; expressions = d.expressions; sizes = d.sizes; statements = d.statements ++ s ∷ []; run = d.run }
extended d (Item.Run n) = record { variables = d.variables; expressions = d.expressions; sizes = d.sizes; statements = d.statements; run = Some n }

-- there is room for a line more of its kind
abbrev pub Room : PartialSheet → Item → Type 0
Room d (Item.Variable v) = length d.variables < 16
Room d (Item.Expression e n) = (length d.expressions < 200) × (length d.sizes < 200)
Room d (Item.Statement s) = length d.statements < 200
Room d (Item.Run n) = Unit {0}
