-- Operations: their words, what their operands stand for, and what they make of them. Assumes nothing.
-- An operation is given as an expression or a statement whose operands are 0.
use Rattle.std.specs.Prelude.{ℕ, List, [], ◌∷◌, Some, None, codes, Option}
use Rattle.sheet.specs.declared.elements.Operator.TheVariants as Operator
use Rattle.sheet.specs.declared.elements.Expression.{Expression}
use Rattle.sheet.specs.declared.elements.Expression.TheVariants.{Num, Val, Pair, Not, Last}
use Rattle.sheet.specs.declared.elements.Statement.{Statement}
use Rattle.sheet.specs.declared.elements.Statement.TheVariants.{True, False, Empty, More, Is, And, If, Next, Always, Halt, Len, Gets, Chop, For, While, Request}
use Rattle.lines.specs.declared.items.Keyword.{Keyword}
use Rattle.lines.specs.declared.items.Role.{Role}
use Rattle.lines.specs.declared.items.OperandSlots.{OperandSlots}
use Rattle.text.specs.Words.{where_word}

-- the key that a word names
abbrev pub keyword_of : List ℕ → Option Keyword
keyword_of w =
    where_word w (codes "stmt") (Some Keyword.Stmt) (where_word w (codes "expr") (Some Keyword.Expr) (where_word w (codes "var") (Some Keyword.Var)
    (where_word w (codes "run") (Some Keyword.Run) (where_word w (codes "sheet") (Some Keyword.Sheet) None))))

-- expressions with no operand, with one, with two (`num` is apart, since its operand is no place)
abbrev pub bare_expression : List ℕ → Option Expression
bare_expression w = where_word w (codes "last") (Some Last) None

abbrev pub single_expression : List ℕ → Option Expression
single_expression w = where_word w (codes "val") (Some (Val 0)) (where_word w (codes "not") (Some (Not 0)) None)

abbrev pub double_expression : List ℕ → Option Expression
double_expression w =
    where_word w (codes "add") (Some (Pair Operator.Add 0 0)) (where_word w (codes "sub") (Some (Pair Operator.Sub 0 0))
    (where_word w (codes "mul") (Some (Pair Operator.Mul 0 0)) (where_word w (codes "eq") (Some (Pair Operator.Eq 0 0))
    (where_word w (codes "lt") (Some (Pair Operator.Lt 0 0)) (where_word w (codes "both") (Some (Pair Operator.Both 0 0))
    (where_word w (codes "either") (Some (Pair Operator.Either 0 0)) None))))))

-- statements with no operand, with one, with two, with three
abbrev pub bare_statement : List ℕ → Option Statement
bare_statement w =
    where_word w (codes "true") (Some True) (where_word w (codes "false") (Some False) (where_word w (codes "empty") (Some Empty)
    (where_word w (codes "more") (Some More) None)))

abbrev pub single_statement : List ℕ → Option Statement
single_statement w =
    where_word w (codes "next") (Some (Next 0)) (where_word w (codes "always") (Some (Always 0)) (where_word w (codes "halt") (Some (Halt 0))
    (where_word w (codes "len") (Some (Len 0)) (where_word w (codes "request") (Some (Request 0)) None))))

abbrev pub double_statement : List ℕ → Option Statement
double_statement w =
    where_word w (codes "is") (Some (Is 0 0)) (where_word w (codes "and") (Some (And 0 0)) (where_word w (codes "gets") (Some (Gets 0 0))
    (where_word w (codes "chop") (Some (Chop 0 0)) (where_word w (codes "for") (Some (For 0 0)) (where_word w (codes "while") (Some (While 0 0)) None)))))

abbrev pub triple_statement : List ℕ → Option Statement
triple_statement w = where_word w (codes "if") (Some (If 0 0 0)) None

-- the expression that the words of a line name, by the first of them and how many follow it
abbrev pub expression_named : List (List ℕ) → Option Expression
expression_named [] = None
expression_named (op ∷ []) = bare_expression op
expression_named (op ∷ a ∷ []) = single_expression op
expression_named (op ∷ a ∷ b ∷ []) = double_expression op
expression_named (op ∷ a ∷ b ∷ c ∷ ws) = None

-- the statement that they name
abbrev pub statement_named : List (List ℕ) → Option Statement
statement_named [] = None
statement_named (op ∷ []) = bare_statement op
statement_named (op ∷ a ∷ []) = single_statement op
statement_named (op ∷ a ∷ b ∷ []) = double_statement op
statement_named (op ∷ a ∷ b ∷ c ∷ []) = triple_statement op
statement_named (op ∷ a ∷ b ∷ c ∷ e ∷ ws) = None

-- the roles of the words after an operation; none where there is no such word
abbrev pub Roles : Type 0
Roles = OperandSlots (Option Role)

-- the numbers of its operands; 0 for one that is absent
abbrev pub Operands : Type 0
Operands = OperandSlots ℕ

-- the roles a, b and c, in the order of their words
abbrev pub roles : Option Role → Option Role → Option Role → Roles
roles a b c = record { first = a; second = b; third = c }

-- what the operands of an expression stand for
abbrev pub expression_roles : Expression → Roles
expression_roles (Num c) = roles None None None
expression_roles (Val x) = roles (Some Role.Variable) None None
expression_roles (Pair o a b) = roles (Some Role.Expression) (Some Role.Expression) None
expression_roles (Not a) = roles (Some Role.Expression) None None
expression_roles Last = roles None None None

-- what the operands of a statement stand for
abbrev pub statement_roles : Statement → Roles
statement_roles True = roles None None None
statement_roles False = roles None None None
statement_roles Empty = roles None None None
statement_roles More = roles None None None
statement_roles (Is x e) = roles (Some Role.Variable) (Some Role.Expression) None
statement_roles (And p q) = roles (Some Role.Statement) (Some Role.Statement) None
statement_roles (If e p q) = roles (Some Role.Expression) (Some Role.Statement) (Some Role.Statement)
statement_roles (Next p) = roles (Some Role.Statement) None None
statement_roles (Always p) = roles (Some Role.Statement) None None
statement_roles (Halt e) = roles (Some Role.Expression) None None
statement_roles (Len e) = roles (Some Role.Expression) None None
statement_roles (Gets x e) = roles (Some Role.Variable) (Some Role.Expression) None
statement_roles (Chop p q) = roles (Some Role.Statement) (Some Role.Statement) None
statement_roles (For e p) = roles (Some Role.Expression) (Some Role.Statement) None
statement_roles (While e p) = roles (Some Role.Expression) (Some Role.Statement) None
statement_roles (Request x) = roles (Some Role.Variable) None None

-- an expression with the operands o
abbrev pub expression_with : Expression → Operands → Expression
expression_with (Num c) o = Num c
expression_with (Val x) o = Val o.first
expression_with (Pair p a b) o = Pair p o.first o.second
expression_with (Not a) o = Not o.first
expression_with Last o = Last

-- a statement with the operands o
abbrev pub statement_with : Statement → Operands → Statement
statement_with True o = True
statement_with False o = False
statement_with Empty o = Empty
statement_with More o = More
statement_with (Is x e) o = Is o.first o.second
statement_with (And p q) o = And o.first o.second
statement_with (If e p q) o = If o.first o.second o.third
statement_with (Next p) o = Next o.first
statement_with (Always p) o = Always o.first
statement_with (Halt e) o = Halt o.first
statement_with (Len e) o = Len o.first
statement_with (Gets x e) o = Gets o.first o.second
statement_with (Chop p q) o = Chop o.first o.second
statement_with (For e p) o = For o.first o.second
statement_with (While e p) o = While o.first o.second
statement_with (Request x) o = Request o.first
