-- What a line is made of: its key, its words, its form, and what each word stands for. Assumes nothing.
use Rattle.std.specs.Prelude.{ℕ, cond, List, [], ◌∷◌, length, Some, None, Option, slice_index_or}
use Rattle.sheet.specs.declared.elements.Expression.{Expression}
use Rattle.sheet.specs.declared.elements.Statement.{Statement}
use Rattle.lines.specs.declared.items.Keyword.{Keyword}
use Rattle.lines.specs.declared.items.Role.{Role}
use Rattle.lines.specs.Operations.{Roles}
use Rattle.lines.specs.Operations.{expression_named, statement_named, expression_roles, statement_roles}
use Rattle.lines.specs.Lines.{is_num, key_in, words_in}

-- the form of a line
pub data Form : Type 0 where
  -- its key asks for none: it is `sheet`, or there is no known key
  unasked : Form
  -- it has none: the operation is unknown, or the number of words is wrong
  none : Form
  -- `var=NAME LOW HIGH`
  variable : Form
  -- `expr=num C`
  num : Form
  -- any other `expr` line, with its operation: an expression whose operands are 0
  expression : Expression → Form
  -- a `stmt` line, with its operation: a statement whose operands are 0
  statement : Statement → Form
  -- `run=P`
  run : Form

abbrev pub expression_if : Option Expression → Form
expression_if None = none
expression_if (Some e) = expression e

abbrev pub statement_if : Option Statement → Form
statement_if None = none
statement_if (Some s) = statement s

-- the form of a `var` line with the words ws
abbrev pub variable_form : List (List ℕ) → Form
variable_form [] = none
variable_form (n ∷ []) = none
variable_form (n ∷ a ∷ []) = none
variable_form (n ∷ a ∷ b ∷ []) = variable
variable_form (n ∷ a ∷ b ∷ c ∷ ws) = none

-- the form of an `expr` line with the words ws
abbrev pub expression_form : List (List ℕ) → Form
expression_form ws = cond (is_num ws) num (expression_if (expression_named ws))

-- the form of a `stmt` line with the words ws
abbrev pub statement_form : List (List ℕ) → Form
statement_form ws = statement_if (statement_named ws)

-- the form of a `run` line with the words ws
abbrev pub run_form : List (List ℕ) → Form
run_form [] = none
run_form (w ∷ []) = run
run_form (w ∷ x ∷ ws) = none

-- the form of a line with this key, if it has a known one, and the words ws
abbrev pub form_of : Option Keyword → List (List ℕ) → Form
form_of None ws = unasked
form_of (Some Keyword.Sheet) ws = unasked
form_of (Some Keyword.Var) ws = variable_form ws
form_of (Some Keyword.Expr) ws = expression_form ws
form_of (Some Keyword.Stmt) ws = statement_form ws
form_of (Some Keyword.Run) ws = run_form ws

-- a line as it is read; it has so many bytes
pub record Line : Type 0 where
  pub bytes : ℕ
  pub key : Option Keyword
  pub words : List (List ℕ)
  pub form : Form

abbrev pub line_in : List ℕ → Line
line_in l = record { bytes = length l; key = key_in l; words = words_in l; form = form_of (key_in l) (words_in l) }

-- what a word stands for
pub data WordMeaning : Type 0 where
  -- an operation, or there is no such word
  nothing : WordMeaning
  -- the name of a new variable
  fresh : WordMeaning
  -- the bounds of its range
  low : WordMeaning
  high : WordMeaning
  -- the number of `num`
  constant : WordMeaning
  -- an operand
  operand : Role → WordMeaning

-- what a word with this role stands for, if it has one
abbrev pub meaning_of_role : Option Role → WordMeaning
meaning_of_role None = nothing
meaning_of_role (Some r) = operand r

-- what the words stand for where an operation has operands with the roles r
abbrev pub operands_by : Roles → List WordMeaning
operands_by r = nothing ∷ meaning_of_role r.first ∷ meaning_of_role r.second ∷ meaning_of_role r.third ∷ []

-- what the words of a line of this form stand for, from the first word on
abbrev pub word_meanings : Form → List WordMeaning
word_meanings unasked = []
word_meanings none = []
word_meanings variable = fresh ∷ low ∷ high ∷ []
word_meanings num = nothing ∷ constant ∷ []
word_meanings (expression e) = operands_by (expression_roles e)
word_meanings (statement s) = operands_by (statement_roles s)
word_meanings run = operand Role.Statement ∷ []

-- what stands at w in xs, counted from 1, else z
abbrev pub nth : {X : Type 0} → X → List X → ℕ → X
nth z xs w = slice_index_or (z ∷ xs) w z

-- word w of a line; no bytes where there is none
abbrev pub word_at : Line → ℕ → List ℕ
word_at x w = nth [] x.words w

-- what word w of a line stands for
abbrev pub meaning_at : Line → ℕ → WordMeaning
meaning_at x w = nth nothing (word_meanings x.form) w
