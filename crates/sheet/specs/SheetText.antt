-- How a sheet is written: a line for each part, in the order of the keys. Assumes nothing.
use Rattle.std.specs.Prelude.{ℕ, List, [], ◌∷◌, ◌++◌, map, codes, decimal}
use Rattle.std.specs.List.{flat_map}
use Rattle.std.specs.Fmt.{signed_decimal}
use Rattle.sheet.specs.declared.elements.Variable.{Variable}
use Rattle.sheet.specs.declared.elements.Operator.{Operator}
use Rattle.sheet.specs.declared.elements.Operator.TheVariants.{Add, Sub, Mul, Eq, Lt, Both, Either}
use Rattle.sheet.specs.declared.elements.Expression.{Expression}
use Rattle.sheet.specs.declared.elements.Expression.TheVariants.{Num, Val, Pair, Not, Last}
use Rattle.sheet.specs.declared.elements.Statement.{Statement}
use Rattle.sheet.specs.declared.elements.Statement.TheVariants.{True, False, Empty, More, Is, And, If, Next, Always, Halt, Len, Gets, Chop, For, While, Request}
use Rattle.sheet.specs.Content.{Content, letters_of, variable_at}

-- words with one space between
abbrev pub spaced : List (List ℕ) → List ℕ
spaced [] = []
spaced (w ∷ []) = w
spaced (w ∷ x ∷ ws) = w ++ 32 ∷ spaced (x ∷ ws)

-- the name of the variable with number x
abbrev pub name_of_variable : List Variable → ℕ → List ℕ
name_of_variable vs x = letters_of (variable_at vs x).name

abbrev pub operator_word : Operator → List ℕ
operator_word Add = codes "add"
operator_word Sub = codes "sub"
operator_word Mul = codes "mul"
operator_word Eq = codes "eq"
operator_word Lt = codes "lt"
operator_word Both = codes "both"
operator_word Either = codes "either"

-- the words of a variable's line
abbrev pub variable_words : Variable → List (List ℕ)
variable_words v = letters_of v.name ∷ signed_decimal v.low ∷ signed_decimal v.high ∷ []

-- the words of an expression's line, in a sheet with the variables vs
abbrev pub expression_words : List Variable → Expression → List (List ℕ)
expression_words vs (Num c) = codes "num" ∷ signed_decimal c ∷ []
expression_words vs (Val x) = codes "val" ∷ name_of_variable vs x ∷ []
expression_words vs (Pair o a b) = operator_word o ∷ decimal a ∷ decimal b ∷ []
expression_words vs (Not a) = codes "not" ∷ decimal a ∷ []
expression_words vs Last = codes "last" ∷ []

-- the words of a statement's line, in a sheet with the variables vs
abbrev pub statement_words : List Variable → Statement → List (List ℕ)
statement_words vs True = codes "true" ∷ []
statement_words vs False = codes "false" ∷ []
statement_words vs Empty = codes "empty" ∷ []
statement_words vs More = codes "more" ∷ []
statement_words vs (Is x e) = codes "is" ∷ name_of_variable vs x ∷ decimal e ∷ []
statement_words vs (And p q) = codes "and" ∷ decimal p ∷ decimal q ∷ []
statement_words vs (If e p q) = codes "if" ∷ decimal e ∷ decimal p ∷ decimal q ∷ []
statement_words vs (Next p) = codes "next" ∷ decimal p ∷ []
statement_words vs (Always p) = codes "always" ∷ decimal p ∷ []
statement_words vs (Halt e) = codes "halt" ∷ decimal e ∷ []
statement_words vs (Len e) = codes "len" ∷ decimal e ∷ []
statement_words vs (Gets x e) = codes "gets" ∷ name_of_variable vs x ∷ decimal e ∷ []
statement_words vs (Chop p q) = codes "chop" ∷ decimal p ∷ decimal q ∷ []
statement_words vs (For e p) = codes "for" ∷ decimal e ∷ decimal p ∷ []
statement_words vs (While e p) = codes "while" ∷ decimal e ∷ decimal p ∷ []
statement_words vs (Request x) = codes "request" ∷ name_of_variable vs x ∷ []

abbrev pub variable_line : Variable → List ℕ
variable_line v = codes "var=" ++ spaced (variable_words v)

abbrev pub expression_line : List Variable → Expression → List ℕ
expression_line vs e = codes "expr=" ++ spaced (expression_words vs e)

abbrev pub statement_line : List Variable → Statement → List ℕ
statement_line vs s = codes "stmt=" ++ spaced (statement_words vs s)

abbrev pub run_line : ℕ → List ℕ
run_line n = codes "run=" ++ decimal n

-- the lines after the first
abbrev pub body_lines : Content → List (List ℕ)
body_lines c =
    map variable_line c.variables
    ++ (map (expression_line c.variables) c.expressions ++ (map (statement_line c.variables) c.statements ++ run_line c.run ∷ []))

-- a line with the byte that ends it
abbrev pub with_line_end : List ℕ → List ℕ
with_line_end l = l ++ 10 ∷ []

-- a sheet's text
abbrev pub sheet_text : Content → List ℕ
sheet_text c = flat_map with_line_end (codes "sheet=2" ∷ body_lines c)
