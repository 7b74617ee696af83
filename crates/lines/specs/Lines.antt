-- What a line says after those before it, or its fault: the faults are looked for in the order of their numbers. Assumes nothing.
use Rattle.std.specs.Prelude.{◌≡◌, ℕ, ◌<◌, Bool, true, false, cond, not, ◌&&◌, List, [], ◌∷◌, length, ℤ, is_some, Some, None, Ok, Err, codes, Option, Result, ◌==◌, int_le, nat_le, nat_lt, slice_index_or}
use Rattle.std.specs.Option.{ok_or}
use Rattle.std.specs.Str.{bytes_eq}
use Rattle.text.specs.Cut.{before, after, parted}
use Rattle.text.specs.Decimals.{natural_of, integer_of}
use Rattle.sheet.specs.declared.elements.Name.{Name}
use Rattle.sheet.specs.declared.elements.Expression.{Expression}
use Rattle.sheet.specs.declared.elements.Expression.TheVariants.{Num}
use Rattle.sheet.specs.Sizes.{size}
use Rattle.sheet.specs.Limits.{name_of, number_of_name, declared}
use Rattle.lines.specs.declared.items.Fault.{Fault}
use Rattle.sheet.specs.declared.item.Item.{Item}
use Rattle.lines.specs.declared.items.Keyword.{Keyword}
use Rattle.lines.specs.declared.items.Role.{Role}
use Rattle.lines.specs.declared.items.Words.{Words}
use Rattle.lines.specs.declared.items.Words.TheVariants.{One, Two, Three, Four}
use Rattle.sheet.specs.PartialSheet.{PartialSheet}
use Rattle.lines.specs.Operations.{Roles, Operands, keyword_of, expression_named, statement_named, expression_roles, statement_roles, expression_with, statement_with}

-- one step after another, up to the first fault
abbrev pub then : {A B E : Type 0} → Result A E → (A → Result B E) → Result B E
then (Ok x) f = f x
then (Err e) f = Err e

-- the words of a line, as lists of bytes
abbrev pub word_list : Words → List (List ℕ)
word_list (One a) = a.now ∷ []
word_list (Two a b) = a.now ∷ b.now ∷ []
word_list (Three a b c) = a.now ∷ b.now ∷ c.now ∷ []
word_list (Four a b c d) = a.now ∷ b.now ∷ c.now ∷ d.now ∷ []

-- o has the words ws; there is none where they are more than four
abbrev pub Cut : Option Words → List (List ℕ) → Type 0
Cut None ws = 4 < length ws
Cut (Some r) ws = ws ≡ word_list r

-- a line with this key may stand here: no later key stood before, and neither `var` nor `stmt` is skipped
abbrev pub allowed : PartialSheet → Keyword → Bool
allowed d Keyword.Sheet = length d.variables == 0
allowed d Keyword.Var = length d.expressions == 0 && (length d.statements == 0 && not (is_some d.run))
allowed d Keyword.Expr = nat_lt 0 (length d.variables) && (length d.statements == 0 && not (is_some d.run))
allowed d Keyword.Stmt = nat_lt 0 (length d.variables) && not (is_some d.run)
allowed d Keyword.Run = nat_lt 0 (length d.variables) && nat_lt 0 (length d.statements)

-- there are already as many lines with this key as there may be
abbrev pub key_full : PartialSheet → Keyword → Bool
key_full d Keyword.Sheet = true
key_full d Keyword.Var = nat_le 16 (length d.variables)
key_full d Keyword.Expr = nat_le 200 (length d.expressions)
key_full d Keyword.Stmt = nat_le 200 (length d.statements)
key_full d Keyword.Run = is_some d.run

-- the number that an operand's word writes: 0 to 199
abbrev pub operand_number : ℕ → Option Role → List ℕ → Result ℕ Fault
operand_number at None w = Ok 0
operand_number at (Some Role.Variable) w = Ok 0
operand_number at (Some Role.Expression) w = ok_or (natural_of 199 w) (Fault.Number at)
operand_number at (Some Role.Statement) w = ok_or (natural_of 199 w) (Fault.Number at)

-- the number of the variable with this name, if there is a name
abbrev pub number_by : PartialSheet → Option Name → Option ℕ
number_by d None = None
number_by d (Some n) = number_of_name d.variables n

-- the number n, or that of the variable that an operand's word names
abbrev pub resolved : PartialSheet → ℕ → Option Role → List ℕ → ℕ → Result ℕ Fault
resolved d at None w n = Ok n
resolved d at (Some Role.Variable) w n = ok_or (number_by d (name_of w)) (Fault.Name at)
resolved d at (Some Role.Expression) w n = Ok n
resolved d at (Some Role.Statement) w n = Ok n

-- the number n, where an expression or a statement has it
abbrev pub check_exists : PartialSheet → ℕ → Option Role → ℕ → Result ℕ Fault
check_exists d at None n = Ok n
check_exists d at (Some Role.Variable) n = Ok n
check_exists d at (Some Role.Expression) n = cond (nat_lt n (length d.expressions)) (Ok n) (Err (Fault.Operand at))
check_exists d at (Some Role.Statement) n = cond (nat_lt n (length d.statements)) (Ok n) (Err (Fault.Operand at))

-- the operands in the words a, b and c, which are the second, third and fourth of their line
abbrev pub operands : PartialSheet → Roles → List ℕ → List ℕ → List ℕ → Result Operands Fault
operands d r a b c =
    then (operand_number 2 r.first a) (λ i. then (operand_number 3 r.second b) (λ j. then (operand_number 4 r.third c) (λ k.
    then (resolved d 2 r.first a i) (λ i. then (resolved d 3 r.second b j) (λ j. then (resolved d 4 r.third c k) (λ k.
    then (check_exists d 2 r.first i) (λ i. then (check_exists d 3 r.second j) (λ j. then (check_exists d 4 r.third k) (λ k.
    Ok (record { first = i; second = j; third = k }))))))))))

-- an expression with its size, which is at most 1,000,000,000
abbrev pub sized : PartialSheet → Expression → Result Item Fault
sized d e = cond (nat_le (size d.variables d.sizes e) 1000000000) (Ok (Item.Expression e (size d.variables d.sizes e))) (Err Fault.Size)

-- an operation, if there is one, with the operands in the words a, b and c
abbrev pub made : {X : Type 0} → (X → Roles) → (X → Operands → X) → PartialSheet → Option X → List ℕ → List ℕ → List ℕ → Result X Fault
made roles with d None a b c = Err Fault.Form
made roles with d (Some x) a b c = then (operands d (roles x) a b c) (λ o. Ok (with x o))

-- `num C`
abbrev pub constant : PartialSheet → List ℕ → Result Item Fault
constant d w = then (ok_or (integer_of 1000000 w) (Fault.Number 2)) (λ z. sized d (Num z))

-- word k of the words of a line, counted from 0; no bytes where there is none
abbrev pub word_in : List (List ℕ) → ℕ → List ℕ
word_in ws k = slice_index_or ws k []

-- the operation that the words ws name, by `named`, with the operands that they tell
abbrev pub operation_of : {X : Type 0} → (List (List ℕ) → Option X) → (X → Roles) → (X → Operands → X) → PartialSheet → List (List ℕ) → Result X Fault
operation_of named roles with d ws = made roles with d (named ws) (word_in ws 1) (word_in ws 2) (word_in ws 3)

-- the words ws are `num C`
abbrev pub is_num : List (List ℕ) → Bool
is_num [] = false
is_num (op ∷ []) = false
is_num (op ∷ a ∷ []) = bytes_eq op (codes "num")
is_num (op ∷ a ∷ b ∷ ws) = false

-- an `expr` line with the words ws
abbrev pub expression_of : PartialSheet → List (List ℕ) → Result Item Fault
expression_of d ws = cond (is_num ws) (constant d (word_in ws 1)) (then (operation_of expression_named expression_roles expression_with d ws) (sized d))

-- a `stmt` line with the words ws
abbrev pub statement_of : PartialSheet → List (List ℕ) → Result Item Fault
statement_of d ws = then (operation_of statement_named statement_roles statement_with d ws) (λ s. Ok (Item.Statement s))

-- a bound of a range, in the word at `at`
abbrev pub bound : ℕ → List ℕ → Result ℤ Fault
bound at w = ok_or (integer_of 1000000 w) (Fault.Number at)

-- HIGH from LOW on
abbrev pub check_not_below : ℤ → ℤ → Result ℤ Fault
check_not_below low high = cond (int_le low high) (Ok high) (Err (Fault.Number 3))

-- a name that is not declared yet
abbrev pub fresh : PartialSheet → List ℕ → Result Name Fault
fresh d w = then (ok_or (name_of w) (Fault.Name 1)) (λ n. cond (declared d.variables n) (Err (Fault.Name 1)) (Ok n))

-- a `var` line with the words ws
abbrev pub variable_of : PartialSheet → List (List ℕ) → Result Item Fault
variable_of d [] = Err Fault.Form
variable_of d (n ∷ []) = Err Fault.Form
variable_of d (n ∷ a ∷ []) = Err Fault.Form
variable_of d (n ∷ a ∷ b ∷ []) =
    then (bound 2 a) (λ low. then (bound 3 b) (λ h. then (check_not_below low h) (λ high. then (fresh d n) (λ name.
    Ok (Item.Variable (record { name = name; low = low; high = high }))))))
variable_of d (n ∷ a ∷ b ∷ c ∷ ws) = Err Fault.Form

-- a `run` line with the words ws
abbrev pub run_of : PartialSheet → List (List ℕ) → Result Item Fault
run_of d [] = Err Fault.Form
run_of d (w ∷ []) = then (operand_number 1 (Some Role.Statement) w) (λ n. then (check_exists d 1 (Some Role.Statement) n) (λ m. Ok (Item.Run m)))
run_of d (w ∷ x ∷ ws) = Err Fault.Form

-- a line with this key and the words ws
abbrev pub item_of : PartialSheet → Keyword → List (List ℕ) → Result Item Fault
item_of d Keyword.Sheet ws = Err Fault.Many
item_of d Keyword.Var ws = variable_of d ws
item_of d Keyword.Expr ws = expression_of d ws
item_of d Keyword.Stmt ws = statement_of d ws
item_of d Keyword.Run ws = run_of d ws

-- that a line with this key may come
abbrev pub checked_key : PartialSheet → Keyword → Result Keyword Fault
checked_key d k = cond (allowed d k) (cond (key_full d k) (Err Fault.Many) (Ok k)) (Err Fault.Key)

-- the key of a line, which stands ahead of its first `=`
abbrev pub key_in : List ℕ → Option Keyword
key_in l = cond (length (before 61 l) == length l) None (keyword_of (before 61 l))

-- the words of a line, behind that `=` and parted by spaces
abbrev pub words_in : List ℕ → List (List ℕ)
words_in l = parted 32 (after 61 l)

-- what the line l says after those before it
abbrev pub line_of : PartialSheet → List ℕ → Result Item Fault
line_of d l =
    cond (nat_lt 64 (length l)) (Err Fault.Long)
    (then (ok_or (key_in l) Fault.Key) (λ k. then (checked_key d k) (λ k. item_of d k (words_in l))))
