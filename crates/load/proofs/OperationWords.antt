-- Operations: their words, and the operands that they take. Assumes nothing.
use Rattle.std.proofs.Common.{◌≡◌, ℕ, Bool, true, false, cond, List, [], ◌∷◌, length, take, Some, None, codes, Option, sym, refl, subst}
use Rattle.std.specs.Str.{bytes_eq}
use Rattle.std.proofs.lemmas.Slice.Eq.{bytes_eq-Decides}
use Rattle.std.proofs.lemmas.Bool.{and_from}
use Rattle.sheet.specs.declared.elements.Operator.TheVariants as Operator
use Rattle.sheet.specs.declared.elements.Expression.{Expression}
use Rattle.sheet.specs.declared.elements.Expression.TheVariants.{Num, Val, Pair, Not, Last}
use Rattle.sheet.specs.declared.elements.Statement.{Statement}
use Rattle.sheet.specs.declared.elements.Statement.TheVariants.{True, False, Empty, More, Is, And, If, Next, Always, Halt, Len, Gets, Chop, For, While, Request}
use Rattle.sheet.specs.SheetText.{operator_word, expression_words, statement_words}
use Rattle.sheet.specs.Limits.{expression_ok, statement_ok}
use Rattle.lines.specs.Operations.{Operands}
use Rattle.sheet.specs.PartialSheet.{PartialSheet}
use Rattle.lines.specs.Operations.{bare_expression, single_expression, double_expression, bare_statement, single_statement, double_statement, triple_statement, expression_roles, statement_roles, expression_with, statement_with}
use Rattle.load.proofs.UpToFirstFault.{clash_none, same_some}
use Rattle.load.proofs.OperandWords.{AllWordsSay, ok_in}
use Rattle.text.specs.Words.{where_word}

-- the word of an operation, and how many operands it takes
abbrev pub statement_word : Statement → List ℕ
statement_word True = codes "true"
statement_word False = codes "false"
statement_word Empty = codes "empty"
statement_word More = codes "more"
statement_word (Is x e) = codes "is"
statement_word (And p q) = codes "and"
statement_word (If e p q) = codes "if"
statement_word (Next p) = codes "next"
statement_word (Always p) = codes "always"
statement_word (Halt e) = codes "halt"
statement_word (Len e) = codes "len"
statement_word (Gets x e) = codes "gets"
statement_word (Chop p q) = codes "chop"
statement_word (For e p) = codes "for"
statement_word (While e p) = codes "while"
statement_word (Request x) = codes "request"

abbrev pub statement_arity : Statement → ℕ
statement_arity True = 0
statement_arity False = 0
statement_arity Empty = 0
statement_arity More = 0
statement_arity (Is x e) = 2
statement_arity (And p q) = 2
statement_arity (If e p q) = 3
statement_arity (Next p) = 1
statement_arity (Always p) = 1
statement_arity (Halt e) = 1
statement_arity (Len e) = 1
statement_arity (Gets x e) = 2
statement_arity (Chop p q) = 2
statement_arity (For e p) = 2
statement_arity (While e p) = 2
statement_arity (Request x) = 1

-- `num` is read apart
abbrev pub expression_word : Expression → List ℕ
expression_word (Num c) = []
expression_word (Val x) = codes "val"
expression_word (Pair o a b) = operator_word o
expression_word (Not a) = codes "not"
expression_word Last = codes "last"

abbrev pub expression_arity : Expression → ℕ
expression_arity (Num c) = 4
expression_arity (Val x) = 1
expression_arity (Pair o a b) = 2
expression_arity (Not a) = 1
expression_arity Last = 0

-- ---- the operation that a word names
pub record Named {X : Type 0} (word : X → List ℕ) (arity : X → ℕ) (n : ℕ) (w : List ℕ) (x : X) : Type 0 where
  pub word_is : w ≡ word x
  pub arity_is : arity x ≡ n

abbrev pub Finds : {X : Type 0} → (X → List ℕ) → (X → ℕ) → ℕ → List ℕ → Option X → Type 0
Finds word arity n w o = (x : _) → o ≡ Some x → Named word arity n w x

module _ {X : Type 0} (word : X → List ℕ) (arity : X → ℕ) (n : ℕ) (w : List ℕ) where
  find_none : Finds word arity n w None
  find_none x q = absurd (clash_none q)

  find_more : (y : X) (rest : Option X) → arity y ≡ n → Finds word arity n w rest → Finds word arity n w (where_word w (word y) (Some y) rest)
  find_more y rest e f x q = go (bytes_eq w (word y)) refl q
    where
      go : (b : Bool) → bytes_eq w (word y) ≡ b → cond b (Some y) rest ≡ Some x → Named word arity n w x
      go true t r = subst (Named word arity n w) (same_some r) (record { word_is = (bytes_eq-Decides w (word y)).0 t; arity_is = e })
      go false t r = f x r

pub finds_bare_statement : (w : List ℕ) → Finds statement_word statement_arity 0 w (bare_statement w)
finds_bare_statement w =
    let go = find_more statement_word statement_arity 0 w in
    go True _ refl (go False _ refl (go Empty _ refl (go More _ refl (find_none statement_word statement_arity 0 w))))

pub finds_single_statement : (w : List ℕ) → Finds statement_word statement_arity 1 w (single_statement w)
finds_single_statement w =
    let go = find_more statement_word statement_arity 1 w in
    go (Next 0) _ refl (go (Always 0) _ refl (go (Halt 0) _ refl (go (Len 0) _ refl (go (Request 0) _ refl (find_none statement_word statement_arity 1 w)))))

pub finds_double_statement : (w : List ℕ) → Finds statement_word statement_arity 2 w (double_statement w)
finds_double_statement w =
    let go = find_more statement_word statement_arity 2 w in
    go (Is 0 0) _ refl (go (And 0 0) _ refl (go (Gets 0 0) _ refl (go (Chop 0 0) _ refl (go (For 0 0) _ refl (go (While 0 0) _ refl (find_none statement_word statement_arity 2 w))))))

pub finds_triple_statement : (w : List ℕ) → Finds statement_word statement_arity 3 w (triple_statement w)
finds_triple_statement w = find_more statement_word statement_arity 3 w (If 0 0 0) _ refl (find_none statement_word statement_arity 3 w)

pub finds_bare_expression : (w : List ℕ) → Finds expression_word expression_arity 0 w (bare_expression w)
finds_bare_expression w = find_more expression_word expression_arity 0 w Last _ refl (find_none expression_word expression_arity 0 w)

pub finds_single_expression : (w : List ℕ) → Finds expression_word expression_arity 1 w (single_expression w)
finds_single_expression w =
    let go = find_more expression_word expression_arity 1 w in
    go (Val 0) _ refl (go (Not 0) _ refl (find_none expression_word expression_arity 1 w))

pub finds_double_expression : (w : List ℕ) → Finds expression_word expression_arity 2 w (double_expression w)
finds_double_expression w =
    let go = find_more expression_word expression_arity 2 w in
    go (Pair Operator.Add 0 0) _ refl (go (Pair Operator.Sub 0 0) _ refl (go (Pair Operator.Mul 0 0) _ refl (go (Pair Operator.Eq 0 0) _ refl
    (go (Pair Operator.Lt 0 0) _ refl (go (Pair Operator.Both 0 0) _ refl (go (Pair Operator.Either 0 0) _ refl (find_none expression_word expression_arity 2 w)))))))

-- ---- an operation with the operands that were read is written with their words
pub statement_words_said : (d : PartialSheet) (s : Statement) (a b c : List ℕ) (o : Operands) → AllWordsSay d (statement_roles s) a b c o → statement_word s ∷ take (statement_arity s) (a ∷ b ∷ c ∷ []) ≡ statement_words d.variables (statement_with s o)
statement_words_said d True a b c o f = refl
statement_words_said d False a b c o f = refl
statement_words_said d Empty a b c o f = refl
statement_words_said d More a b c o f = refl
statement_words_said d (Is x e) a b c o f = λ i. codes "is" ∷ f.first.0 i ∷ f.second.0 i ∷ []
statement_words_said d (And p q) a b c o f = λ i. codes "and" ∷ f.first.0 i ∷ f.second.0 i ∷ []
statement_words_said d (If e p q) a b c o f = λ i. codes "if" ∷ f.first.0 i ∷ f.second.0 i ∷ f.third.0 i ∷ []
statement_words_said d (Next p) a b c o f = λ i. codes "next" ∷ f.first.0 i ∷ []
statement_words_said d (Always p) a b c o f = λ i. codes "always" ∷ f.first.0 i ∷ []
statement_words_said d (Halt e) a b c o f = λ i. codes "halt" ∷ f.first.0 i ∷ []
statement_words_said d (Len e) a b c o f = λ i. codes "len" ∷ f.first.0 i ∷ []
statement_words_said d (Gets x e) a b c o f = λ i. codes "gets" ∷ f.first.0 i ∷ f.second.0 i ∷ []
statement_words_said d (Chop p q) a b c o f = λ i. codes "chop" ∷ f.first.0 i ∷ f.second.0 i ∷ []
statement_words_said d (For e p) a b c o f = λ i. codes "for" ∷ f.first.0 i ∷ f.second.0 i ∷ []
statement_words_said d (While e p) a b c o f = λ i. codes "while" ∷ f.first.0 i ∷ f.second.0 i ∷ []
statement_words_said d (Request x) a b c o f = λ i. codes "request" ∷ f.first.0 i ∷ []

pub statement_with_ok : (d : PartialSheet) (s : Statement) (o : Operands) → ok_in d (statement_roles s).first o.first ≡ true → ok_in d (statement_roles s).second o.second ≡ true → ok_in d (statement_roles s).third o.third ≡ true
    → statement_ok (length d.variables) (length d.expressions) (length d.statements) (statement_with s o) ≡ true
statement_with_ok d True o p q r = refl
statement_with_ok d False o p q r = refl
statement_with_ok d Empty o p q r = refl
statement_with_ok d More o p q r = refl
statement_with_ok d (Is x e) o p q r = and_from _ _ p q
statement_with_ok d (And x y) o p q r = and_from _ _ p q
statement_with_ok d (If e x y) o p q r = and_from _ _ p (and_from _ _ q r)
statement_with_ok d (Next x) o p q r = p
statement_with_ok d (Always x) o p q r = p
statement_with_ok d (Halt e) o p q r = p
statement_with_ok d (Len e) o p q r = p
statement_with_ok d (Gets x e) o p q r = and_from _ _ p q
statement_with_ok d (Chop x y) o p q r = and_from _ _ p q
statement_with_ok d (For e x) o p q r = and_from _ _ p q
statement_with_ok d (While e x) o p q r = and_from _ _ p q
statement_with_ok d (Request x) o p q r = p

pub expression_words_said : (d : PartialSheet) (e : Expression) (a b c : List ℕ) (o : Operands) (n : ℕ) → expression_arity e ≡ n → (n ≡ 4 → ⊥) → AllWordsSay d (expression_roles e) a b c o → expression_word e ∷ take (expression_arity e) (a ∷ b ∷ c ∷ []) ≡ expression_words d.variables (expression_with e o)
expression_words_said d (Num z) a b c o n e apart f = absurd (apart (sym e))
expression_words_said d (Val x) a b c o n e apart f = λ i. codes "val" ∷ f.first.0 i ∷ []
expression_words_said d (Pair p x y) a b c o n e apart f = λ i. operator_word p ∷ f.first.0 i ∷ f.second.0 i ∷ []
expression_words_said d (Not x) a b c o n e apart f = λ i. codes "not" ∷ f.first.0 i ∷ []
expression_words_said d Last a b c o n e apart f = refl

pub expression_with_ok : (d : PartialSheet) (e : Expression) (o : Operands) (n : ℕ) → expression_arity e ≡ n → (n ≡ 4 → ⊥) → ok_in d (expression_roles e).first o.first ≡ true → ok_in d (expression_roles e).second o.second ≡ true
    → expression_ok (length d.variables) (length d.expressions) (expression_with e o) ≡ true
expression_with_ok d (Num z) o n e apart p q = absurd (apart (sym e))
expression_with_ok d (Val x) o n e apart p q = p
expression_with_ok d (Pair f x y) o n e apart p q = and_from _ _ p q
expression_with_ok d (Not x) o n e apart p q = p
expression_with_ok d Last o n e apart p q = refl
