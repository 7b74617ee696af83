-- Which faults fit a line, and which of them is told. Assumes nothing.
use Rattle.std.specs.Prelude.{◌≡◌, ℕ, ◌<◌, Bool, true, false, not, ◌||◌, ◌⊎◌, List, length, ℤ, pos, is_some, Some, None, Ok, Err, Option, int_le, nat_lt}
use Rattle.std.specs.Option.{unwrap_or}
use Rattle.text.specs.Decimals.{natural_of, integer_of}
use Rattle.sheet.specs.declared.elements.Expression.{Expression}
use Rattle.sheet.specs.declared.elements.Expression.TheVariants.{Num}
use Rattle.sheet.specs.Sizes.{size}
use Rattle.sheet.specs.Limits.{name_of}
use Rattle.lines.specs.declared.items.Fault.{Fault}
use Rattle.sheet.specs.declared.item.Item.{Item}
use Rattle.lines.specs.declared.items.Keyword.{Keyword}
use Rattle.lines.specs.Operations.{Operands}
use Rattle.lines.specs.declared.items.Role.{Role}
use Rattle.lines.specs.Operations.{Roles}
use Rattle.sheet.specs.PartialSheet.{PartialSheet}
use Rattle.lines.specs.Operations.{expression_roles, expression_with}
use Rattle.lines.specs.Lines.{allowed, key_full, number_by, line_of}
use Rattle.lines.specs.WordMeanings.{Form, unasked, none, variable, num, expression, statement, run, Line, line_in, WordMeaning, nothing, fresh, low, high, constant, operand, word_at, meaning_at}

-- the number of a fault
abbrev pub number_of_fault : Fault → ℕ
number_of_fault Fault.Long = 4
number_of_fault Fault.Key = 5
number_of_fault Fault.Many = 6
number_of_fault Fault.Form = 7
number_of_fault (Fault.Number w) = 8
number_of_fault (Fault.Name w) = 9
number_of_fault (Fault.Operand w) = 10
number_of_fault Fault.Size = 11

-- the word that a fault tells, counted from 1; 0 where it tells none
abbrev pub word_of_fault : Fault → ℕ
word_of_fault Fault.Long = 0
word_of_fault Fault.Key = 0
word_of_fault Fault.Many = 0
word_of_fault Fault.Form = 0
word_of_fault (Fault.Number w) = w
word_of_fault (Fault.Name w) = w
word_of_fault (Fault.Operand w) = w
word_of_fault Fault.Size = 0

-- g comes before f: its number is smaller, or it has the same number and tells an earlier word
abbrev pub Before : Fault → Fault → Type 0
Before g f = (number_of_fault g < number_of_fault f) ⊎ ((number_of_fault g ≡ number_of_fault f) × (word_of_fault g < word_of_fault f))

-- a form is asked for, and there is none
abbrev pub formless : Form → Bool
formless unasked = false
formless none = true
formless variable = false
formless num = false
formless (expression e) = false
formless (statement s) = false
formless run = false

-- the number from -1,000,000 to 1,000,000 that a word writes; 0 where it writes none
abbrev pub signed_in : List ℕ → ℤ
signed_in w = unwrap_or (integer_of 1000000 w) (pos 0)

-- the number from 0 to 199 that a word writes; 0 where it writes none
abbrev pub natural_in : List ℕ → ℕ
natural_in w = unwrap_or (natural_of 199 w) 0

-- the word w is to be a number, and is none within its limits: a bound or a constant is from -1,000,000 to 1,000,000,
-- HIGH is not below LOW, which is word 2, v, and an operand that is no name is from 0 to 199
abbrev pub misnumbered : List ℕ → List ℕ → WordMeaning → Bool
misnumbered v w nothing = false
misnumbered v w fresh = false
misnumbered v w low = not (is_some (integer_of 1000000 w))
misnumbered v w high = not (is_some (integer_of 1000000 w)) || not (int_le (signed_in v) (signed_in w))
misnumbered v w constant = not (is_some (integer_of 1000000 w))
misnumbered v w (operand Role.Variable) = false
misnumbered v w (operand Role.Expression) = not (is_some (natural_of 199 w))
misnumbered v w (operand Role.Statement) = not (is_some (natural_of 199 w))

-- the word w is to be a new name, and is no proper one or declared already; or it is to be a declared name, and is none
abbrev pub misnamed : PartialSheet → List ℕ → WordMeaning → Bool
misnamed d w nothing = false
misnamed d w fresh = not (is_some (name_of w)) || is_some (number_by d (name_of w))
misnamed d w low = false
misnamed d w high = false
misnamed d w constant = false
misnamed d w (operand Role.Variable) = not (is_some (number_by d (name_of w)))
misnamed d w (operand Role.Expression) = false
misnamed d w (operand Role.Statement) = false

-- the word w is to be the number of an expression or a statement, and none has it yet
abbrev pub misplaced : PartialSheet → List ℕ → WordMeaning → Bool
misplaced d w nothing = false
misplaced d w fresh = false
misplaced d w low = false
misplaced d w high = false
misplaced d w constant = false
misplaced d w (operand Role.Variable) = false
misplaced d w (operand Role.Expression) = not (nat_lt (natural_in w) (length d.expressions))
misplaced d w (operand Role.Statement) = not (nat_lt (natural_in w) (length d.statements))

-- the operand that the word w tells; 0 where it tells none
abbrev pub operand_in : PartialSheet → Option Role → List ℕ → ℕ
operand_in d None w = 0
operand_in d (Some Role.Variable) w = unwrap_or (number_by d (name_of w)) 0
operand_in d (Some Role.Expression) w = natural_in w
operand_in d (Some Role.Statement) w = natural_in w

-- the operands that words 2, 3 and 4 tell
abbrev pub operands_in : PartialSheet → Roles → Line → Operands
operands_in d r x = record {
  first = operand_in d r.first (word_at x 2);
  second = operand_in d r.second (word_at x 3);
  third = operand_in d r.third (word_at x 4);
}

-- the size of the expression e is above 1,000,000,000
abbrev pub large : PartialSheet → Expression → Bool
large d e = nat_lt 1000000000 (size d.variables d.sizes e)

-- the line x has this form, and makes an expression that is too large
abbrev pub oversized : PartialSheet → Line → Form → Bool
oversized d x unasked = false
oversized d x none = false
oversized d x variable = false
oversized d x num = large d (Num (signed_in (word_at x 2)))
oversized d x (expression e) = large d (expression_with e (operands_in d (expression_roles e) x))
oversized d x (statement s) = false
oversized d x run = false

-- no line with the key k may come here; that is so of a line with no known key
abbrev pub misplaced_key : PartialSheet → Option Keyword → Bool
misplaced_key d None = true
misplaced_key d (Some k) = not (allowed d k)

-- there are already as many lines with the key k as there may be
abbrev pub surplus : PartialSheet → Option Keyword → Bool
surplus d None = false
surplus d (Some k) = key_full d k

-- a fault fits the line x after the lines that said d
abbrev pub applies_to : PartialSheet → Line → Fault → Bool
-- the line has more than 64 bytes
applies_to d x Fault.Long = nat_lt 64 x.bytes
-- no line with its key may come here
applies_to d x Fault.Key = misplaced_key d x.key
-- there are already as many lines with its key as there may be
applies_to d x Fault.Many = surplus d x.key
-- its operation is unknown, or the number of its words is wrong
applies_to d x Fault.Form = formless x.form
-- word w is no number, or one outside its limits
applies_to d x (Fault.Number w) = misnumbered (word_at x 2) (word_at x w) (meaning_at x w)
-- word w is no name, or one declared twice, or one not declared
applies_to d x (Fault.Name w) = misnamed d (word_at x w) (meaning_at x w)
-- word w is the number of an expression or a statement that is not there
applies_to d x (Fault.Operand w) = misplaced d (word_at x w) (meaning_at x w)
-- the size of its expression is above 1,000,000,000
applies_to d x Fault.Size = oversized d x x.form

-- a fault fits the line with the bytes l after the lines that said d
abbrev pub fault_applies : PartialSheet → List ℕ → Fault → Bool
fault_applies d l f = applies_to d (line_in l) f

-- the fault that is told of a line fits it, and none that comes before it does; no fault fits a line that is taken
abbrev pub FirstFault : Type 0
FirstFault =
    (d : PartialSheet) (l : List ℕ)
    → ((f : Fault) → line_of d l ≡ Err f → (fault_applies d l f ≡ true) × ((g : Fault) → Before g f → fault_applies d l g ≡ false))
    × ((x : Item) → line_of d l ≡ Ok x → (g : Fault) → fault_applies d l g ≡ false)
