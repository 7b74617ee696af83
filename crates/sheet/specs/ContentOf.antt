-- What a sheet that is held says. Assumes nothing.
use Rattle.sheet.specs.declared.kept.Sheet.{Sheet}
use Rattle.sheet.specs.Content.{Content}
use Rattle.sheet.specs.Tables.{tables_content}

-- what a sheet says
abbrev pub content_of : Sheet → Content
content_of s = tables_content s.tables s.run
