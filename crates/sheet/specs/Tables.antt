-- What the tables of a sheet say. Assumes nothing.
use Rattle.std.specs.Prelude.{ℕ, [], ◌∷◌, pos, vec_items}
use Rattle.sheet.specs.declared.memory.Tables.{Tables}
use Rattle.sheet.specs.declared.elements.Statement.TheVariants.{Empty}
use Rattle.sheet.specs.Content.{Content}
use Rattle.sheet.specs.Limits.{name_filled}

-- the sheet that tables hold, where statement n is run
abbrev pub tables_content : Tables → ℕ → Content
tables_content t n = record { variables = vec_items t.variables; expressions = vec_items t.expressions; statements = vec_items t.statements; run = n }

-- the sheet of a new engine: `sheet=2`, and then `var=a 0 0`, `stmt=empty` and `run=0`
abbrev pub first_sheet : Content
first_sheet = record { variables = record { name = name_filled (97 ∷ []); low = pos 0; high = pos 0 } ∷ []; expressions = []; statements = Empty ∷ []; run = 0 }
