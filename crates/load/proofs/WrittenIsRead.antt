-- What is written is read: the line of an item that fits is taken as that item. Assumes nothing.
use Rattle.std.proofs.Common.{◌≡◌, ℕ, ◌<◌, ◌≤◌, true, false, not, eqb, ltb, leb, List, [], ◌∷◌, length, nat_abs, is_some, Some, None, Ok, codes, decimal, Option, Result, sym, refl, ap, ◌∙◌, arith}
use lib.Signed.{le_z}
use Rattle.std.specs.Option.{ok_or}
use Rattle.std.specs.Fmt.{signed_decimal}
use Rattle.std.proofs.lemmas.Bool.{and_from, and_parts, lt-ltb, le-ltb, lt-leb, le-leb, leb-true, eq-eqb, ne_eqb, cond-true, cond-false}
use Rattle.text.specs.Cut.{before, after, parted}
use Rattle.text.proofs.Numbers.{natural_some, number_some}
use Rattle.sheet.specs.declared.elements.Operator.{Operator}
use Rattle.sheet.specs.declared.elements.Variable.{Variable}
use Rattle.sheet.specs.declared.elements.Expression.{Expression}
use Rattle.sheet.specs.declared.elements.Expression.TheVariants.{Num, Val, Pair, Not, Last}
use Rattle.sheet.specs.declared.elements.Statement.{Statement}
use Rattle.sheet.specs.declared.elements.Statement.TheVariants.{True, False, Empty, More, Is, And, If, Next, Always, Halt, Len, Gets, Chop, For, While, Request}
use Rattle.sheet.specs.Content.{letters_of}
use Rattle.sheet.specs.Sizes.{size}
use Rattle.sheet.specs.SheetText.{spaced, operator_word, variable_words, expression_words, statement_words}
use Rattle.sheet.specs.Limits.{declared, name_ok, within_million, variable_ok, expression_ok, statement_ok}
use Rattle.lines.specs.declared.items.Fault.{Fault}
use Rattle.sheet.specs.declared.item.Item.{Item}
use Rattle.lines.specs.declared.items.Keyword.{Keyword}
use Rattle.lines.specs.declared.items.Role.TheVariants as Role
use Rattle.sheet.specs.PartialSheet.{PartialSheet}
use Rattle.lines.specs.Operations.{keyword_of, double_expression, expression_roles, expression_with}
use Rattle.lines.specs.Lines.{allowed, key_full, then, made, sized, expression_of, statement_of, variable_of, run_of, item_of, checked_key, line_of}
use Rattle.load.proofs.UpToFirstFault.{then_is, then_made}
use Rattle.load.proofs.WordsAndLines.{lacks, Plain, AllPlain, plain_decimal, plain_signed, plain_letters, parted-spaced, lacks-spaced, short_spaced}
use Rattle.load.proofs.NameLetters.{proper_parts, name_back, variable_parts}
use Rattle.load.proofs.OperandWords.{SteadyWords, operands-read, operand_plain}
use Rattle.load.proofs.ReadIsWritten.{line_text, Fit}

literal : (w : List ℕ) → lacks 32 w ≡ true → lacks 10 w ≡ true → length w ≤ 12 → Plain w
literal w a b c = record { space = a; end = b; short = c }

-- the words of a line can stand in it, and are read as the item that they were written for
record Ready (reads : List (List ℕ) → Result Item Fault) (ws : List (List ℕ)) (x : Item) : Type 0 where
  plain : AllPlain ws
  some : 0 < length ws
  few : length ws ≤ 4
  read : reads ws ≡ Ok x

module _ {reads : List (List ℕ) → Result Item Fault} {x : Item} where
  bare : {w : List ℕ} → Plain w → reads (w ∷ []) ≡ Ok x → Ready reads (w ∷ []) x
  bare p r = record { plain = (p, tt); some = omega arith; few = omega arith; read = r }

  with_one : {w a : List ℕ} → Plain w → Plain a → reads (w ∷ a ∷ []) ≡ Ok x → Ready reads (w ∷ a ∷ []) x
  with_one p q r = record { plain = (p, (q, tt)); some = omega arith; few = omega arith; read = r }

  with_two : {w a b : List ℕ} → Plain w → Plain a → Plain b → reads (w ∷ a ∷ b ∷ []) ≡ Ok x → Ready reads (w ∷ a ∷ b ∷ []) x
  with_two p q s r = record { plain = (p, (q, (s, tt))); some = omega arith; few = omega arith; read = r }

  with_three : {w a b c : List ℕ} → Plain w → Plain a → Plain b → Plain c → reads (w ∷ a ∷ b ∷ c ∷ []) ≡ Ok x → Ready reads (w ∷ a ∷ b ∷ c ∷ []) x
  with_three p q s t r = record { plain = (p, (q, (s, (t, tt)))); some = omega arith; few = omega arith; read = r }

-- ---- statements
statement_ready : (d : PartialSheet) (s : Statement) → SteadyWords d → statement_ok (length d.variables) (length d.expressions) (length d.statements) s ≡ true → Ready (statement_of d) (statement_words d.variables s) (Item.Statement s)
statement_ready d True st ok =
    bare (literal (codes "true") refl refl (omega arith)) refl
statement_ready d False st ok =
    bare (literal (codes "false") refl refl (omega arith)) refl
statement_ready d Empty st ok =
    bare (literal (codes "empty") refl refl (omega arith)) refl
statement_ready d More st ok =
    bare (literal (codes "more") refl refl (omega arith)) refl
statement_ready d (Is x e) st ok =
    let p = and_parts (ltb x (length d.variables)) (ltb e (length d.expressions)) ok in
    with_two (literal (codes "is") refl refl (omega arith)) (operand_plain d (Some Role.Variable) x st p.0) (operand_plain d (Some Role.Expression) e st p.1) (then_made _ _ _ _ (operands-read d (Some Role.Variable) (Some Role.Expression) None x e 0 st p.0 p.1 refl))
statement_ready d (And x y) st ok =
    let p = and_parts (ltb x (length d.statements)) (ltb y (length d.statements)) ok in
    with_two (literal (codes "and") refl refl (omega arith)) (operand_plain d (Some Role.Statement) x st p.0) (operand_plain d (Some Role.Statement) y st p.1) (then_made _ _ _ _ (operands-read d (Some Role.Statement) (Some Role.Statement) None x y 0 st p.0 p.1 refl))
statement_ready d (If e x y) st ok =
    let p = and_parts (ltb e (length d.expressions)) _ ok in
    let q = and_parts (ltb x (length d.statements)) (ltb y (length d.statements)) p.1 in
    with_three (literal (codes "if") refl refl (omega arith)) (operand_plain d (Some Role.Expression) e st p.0) (operand_plain d (Some Role.Statement) x st q.0) (operand_plain d (Some Role.Statement) y st q.1) (then_made _ _ _ _ (operands-read d (Some Role.Expression) (Some Role.Statement) (Some Role.Statement) e x y st p.0 q.0 q.1))
statement_ready d (Next x) st ok =
    with_one (literal (codes "next") refl refl (omega arith)) (operand_plain d (Some Role.Statement) x st ok) (then_made _ _ _ _ (operands-read d (Some Role.Statement) None None x 0 0 st ok refl refl))
statement_ready d (Always x) st ok =
    with_one (literal (codes "always") refl refl (omega arith)) (operand_plain d (Some Role.Statement) x st ok) (then_made _ _ _ _ (operands-read d (Some Role.Statement) None None x 0 0 st ok refl refl))
statement_ready d (Halt e) st ok =
    with_one (literal (codes "halt") refl refl (omega arith)) (operand_plain d (Some Role.Expression) e st ok) (then_made _ _ _ _ (operands-read d (Some Role.Expression) None None e 0 0 st ok refl refl))
statement_ready d (Len e) st ok =
    with_one (literal (codes "len") refl refl (omega arith)) (operand_plain d (Some Role.Expression) e st ok) (then_made _ _ _ _ (operands-read d (Some Role.Expression) None None e 0 0 st ok refl refl))
statement_ready d (Gets x e) st ok =
    let p = and_parts (ltb x (length d.variables)) (ltb e (length d.expressions)) ok in
    with_two (literal (codes "gets") refl refl (omega arith)) (operand_plain d (Some Role.Variable) x st p.0) (operand_plain d (Some Role.Expression) e st p.1) (then_made _ _ _ _ (operands-read d (Some Role.Variable) (Some Role.Expression) None x e 0 st p.0 p.1 refl))
statement_ready d (Chop x y) st ok =
    let p = and_parts (ltb x (length d.statements)) (ltb y (length d.statements)) ok in
    with_two (literal (codes "chop") refl refl (omega arith)) (operand_plain d (Some Role.Statement) x st p.0) (operand_plain d (Some Role.Statement) y st p.1) (then_made _ _ _ _ (operands-read d (Some Role.Statement) (Some Role.Statement) None x y 0 st p.0 p.1 refl))
statement_ready d (For e x) st ok =
    let p = and_parts (ltb e (length d.expressions)) (ltb x (length d.statements)) ok in
    with_two (literal (codes "for") refl refl (omega arith)) (operand_plain d (Some Role.Expression) e st p.0) (operand_plain d (Some Role.Statement) x st p.1) (then_made _ _ _ _ (operands-read d (Some Role.Expression) (Some Role.Statement) None e x 0 st p.0 p.1 refl))
statement_ready d (While e x) st ok =
    let p = and_parts (ltb e (length d.expressions)) (ltb x (length d.statements)) ok in
    with_two (literal (codes "while") refl refl (omega arith)) (operand_plain d (Some Role.Expression) e st p.0) (operand_plain d (Some Role.Statement) x st p.1) (then_made _ _ _ _ (operands-read d (Some Role.Expression) (Some Role.Statement) None e x 0 st p.0 p.1 refl))
statement_ready d (Request x) st ok =
    with_one (literal (codes "request") refl refl (omega arith)) (operand_plain d (Some Role.Variable) x st ok) (then_made _ _ _ _ (operands-read d (Some Role.Variable) None None x 0 0 st ok refl refl))

-- ---- expressions
sized-read : (d : PartialSheet) (e : Expression) (n : ℕ) → n ≡ size d.variables d.sizes e → n ≤ 1000000000 → sized d e ≡ Ok (Item.Expression e n)
sized-read d e n is le =
    cond-true (leb (size d.variables d.sizes e) 1000000000) _ _ (le-leb _ _ (omega arith)) ∙ ap (λ m. Ok (Item.Expression e m)) (sym is)

operator_plain : (o : Operator) → Plain (operator_word o)
operator_plain Operator.Add = literal (codes "add") refl refl (omega arith)
operator_plain Operator.Sub = literal (codes "sub") refl refl (omega arith)
operator_plain Operator.Mul = literal (codes "mul") refl refl (omega arith)
operator_plain Operator.Eq = literal (codes "eq") refl refl (omega arith)
operator_plain Operator.Lt = literal (codes "lt") refl refl (omega arith)
operator_plain Operator.Both = literal (codes "both") refl refl (omega arith)
operator_plain Operator.Either = literal (codes "either") refl refl (omega arith)

operator_named : (o : Operator) → double_expression (operator_word o) ≡ Some (Pair o 0 0)
operator_named Operator.Add = refl
operator_named Operator.Sub = refl
operator_named Operator.Mul = refl
operator_named Operator.Eq = refl
operator_named Operator.Lt = refl
operator_named Operator.Both = refl
operator_named Operator.Either = refl

pair_read : (d : PartialSheet) (o : Operator) (a b n : ℕ) → SteadyWords d → ltb a (length d.expressions) ≡ true → ltb b (length d.expressions) ≡ true → n ≡ size d.variables d.sizes (Pair o a b) → n ≤ 1000000000 → expression_of d (expression_words d.variables (Pair o a b)) ≡ Ok (Item.Expression (Pair o a b) n)
pair_read d o a b n st p q is le =
    ap (λ f. then (made expression_roles expression_with d f (decimal a) (decimal b) []) (sized d)) (operator_named o)
    ∙ then_made _ _ _ _ (operands-read d (Some Role.Expression) (Some Role.Expression) None a b 0 st p q refl) ∙ sized-read d (Pair o a b) n is le

expression_ready : (d : PartialSheet) (e : Expression) (n : ℕ) → SteadyWords d → expression_ok (length d.variables) (length d.expressions) e ≡ true → n ≡ size d.variables d.sizes e → n ≤ 1000000000 → Ready (expression_of d) (expression_words d.variables e) (Item.Expression e n)
expression_ready d (Num z) n st ok is le =
    let small = leb-true (nat_abs z) 1000000 ok in
    record {
      plain = (literal (codes "num") refl refl (omega arith), (plain_signed z small, tt));
      some = omega arith;
      few = omega arith;
      read = then_is _ _ _ (ap (λ o. ok_or o (Fault.Number 2)) (number_some 1000000 (signed_decimal z) z (omega arith) refl small)) ∙ sized-read d (Num z) n is le;
    }
expression_ready d (Val x) n st ok is le =
    with_one (literal (codes "val") refl refl (omega arith)) (operand_plain d (Some Role.Variable) x st ok) (then_made _ _ _ _ (operands-read d (Some Role.Variable) None None x 0 0 st ok refl refl) ∙ sized-read d (Val x) n is le)
expression_ready d (Pair o a b) n st ok is le =
    let p = and_parts (ltb a (length d.expressions)) (ltb b (length d.expressions)) ok in
    with_two (operator_plain o) (operand_plain d (Some Role.Expression) a st p.0) (operand_plain d (Some Role.Expression) b st p.1) (pair_read d o a b n st p.0 p.1 is le)
expression_ready d (Not a) n st ok is le =
    with_one (literal (codes "not") refl refl (omega arith)) (operand_plain d (Some Role.Expression) a st ok) (then_made _ _ _ _ (operands-read d (Some Role.Expression) None None a 0 0 st ok refl refl) ∙ sized-read d (Not a) n is le)
expression_ready d Last n st ok is le =
    bare (literal (codes "last") refl refl (omega arith)) (sized-read d Last n is le)

-- ---- variables
variable_ready : (d : PartialSheet) (v : Variable) → variable_ok d.variables v ≡ true → Ready (variable_of d) (variable_words v) (Item.Variable v)
variable_ready d v ok =
    let p = variable_parts d.variables v ok in
    let q = and_parts (not (declared d.variables v.name)) _ (and_parts (name_ok v.name) _ ok).1 in
    let r = and_parts (within_million v.low) _ q.1 in
    let s = and_parts (within_million v.high) _ r.1 in
    let low = leb-true (nat_abs v.low) 1000000 r.0 in
    let high = leb-true (nat_abs v.high) 1000000 s.0 in
    let name = name_back v.name p.0 in
    let parts = proper_parts (letters_of v.name) name.0 in
    record {
      plain = (plain_letters (letters_of v.name) parts.0 parts.1, (plain_signed v.low low, (plain_signed v.high high, tt)));
      some = omega arith;
      few = omega arith;
      read =
          then_is _ v.low _ (ap (λ o. ok_or o (Fault.Number 2)) (number_some 1000000 (signed_decimal v.low) v.low (omega arith) refl low))
          ∙ then_is _ v.high _ (ap (λ o. ok_or o (Fault.Number 3)) (number_some 1000000 (signed_decimal v.high) v.high (omega arith) refl high))
          ∙ then_is _ v.high _ (cond-true (le_z v.low v.high) _ _ s.1)
          ∙ then_is _ v.name _ (then_is _ v.name _ (ap (λ o. ok_or o (Fault.Name 1)) name.1) ∙ cond-false (declared d.variables v.name) _ _ p.1);
    }

-- ---- lines
admit_ok : (d : PartialSheet) (k : Keyword) → allowed d k ≡ true → key_full d k ≡ false → checked_key d k ≡ Ok k
admit_ok d k a f = cond-true (allowed d k) _ _ a ∙ cond-false (key_full d k) _ _ f

abbrev pub Given : PartialSheet → Item → Type 0
Given d x = (line_of d (line_text d.variables x) ≡ Ok x) × (lacks 10 (line_text d.variables x) ≡ true)

line_whole : (d : PartialSheet) (l key v : List ℕ) (k : Keyword) (ws : List (List ℕ)) (x : Item) → before 61 l ≡ key → after 61 l ≡ v → length l ≤ 64 → length key < length l → keyword_of key ≡ Some k → allowed d k ≡ true → key_full d k ≡ false → parted 32 v ≡ ws → item_of d k ws ≡ Ok x → line_of d l ≡ Ok x
line_whole d l key v k ws x b a short more kw al fu words item =
    cond-false (ltb 64 (length l)) _ _ (le-ltb 64 _ short)
    ∙ then_is _ k _ (ap (λ o. ok_or o Fault.Key) (cond-false (eqb (length (before 61 l)) (length l)) _ _ (ne_eqb _ _ (λ q. omega (arith, ap length b))) ∙ ap keyword_of b ∙ kw))
    ∙ then_is _ k _ (admit_ok d k al fu)
    ∙ ap (item_of d k) (ap (parted 32) a ∙ words) ∙ item

empty_eqb : {X : Type 0} (xs : List X) → xs ≡ [] → eqb (length xs) 0 ≡ true
empty_eqb xs e = eq-eqb (length xs) 0 (ap length e)

no_run : (o : Option ℕ) → o ≡ None → not (is_some o) ≡ true
no_run o e = ap (λ y. not (is_some y)) e

run_read : (d : PartialSheet) (n : ℕ) → ltb n (length d.statements) ≡ true → n < 200 → run_of d (decimal n ∷ []) ≡ Ok (Item.Run n)
run_read d n low few =
    then_is _ n _ (ap (λ o. ok_or o (Fault.Number 1)) (natural_some 199 (decimal n) n (omega arith) (omega arith) refl)) ∙ then_is _ n _ (cond-true (ltb n (length d.statements)) _ _ low)

-- words that are not none are cut apart again
words_again : (ws : List (List ℕ)) → 0 < length ws → AllPlain ws → parted 32 (spaced ws) ≡ ws
words_again [] h p = absurd (omega arith)
words_again (w ∷ ws) h p = parted-spaced w ws p

pub line_given : (d : PartialSheet) (x : Item) → SteadyWords d → Fit d x → Given d x
line_given d (Item.Variable v) st f =
    let c = f.0 in
    let r = variable_ready d v f.1 in
    let l = short_spaced (variable_words v) r.plain in (
      line_whole d (line_text d.variables (Item.Variable v)) (codes "var") _ Keyword.Var (variable_words v) _ refl refl (omega (arith, r.few)) (omega arith) refl
          (and_from _ _ (empty_eqb _ c.0) (and_from _ _ (empty_eqb _ c.1) (no_run _ c.2))) (lt-leb 16 _ c.3) (words_again (variable_words v) (omega arith) r.plain) r.read,
      lacks-spaced (variable_words v) r.plain,
    )
line_given d (Item.Expression e n) st f =
    let c = f.0 in
    let k = f.1 in
    let r = expression_ready d e n st k.0 k.1 k.2 in
    let l = short_spaced (expression_words d.variables e) r.plain in (
      line_whole d (line_text d.variables (Item.Expression e n)) (codes "expr") _ Keyword.Expr (expression_words d.variables e) _ refl refl (omega (arith, r.few)) (omega arith) refl
          (and_from _ _ (lt-ltb 0 _ c.0) (and_from _ _ (empty_eqb _ c.1) (no_run _ c.2))) (lt-leb 200 _ c.3) (words_again _ r.some r.plain) r.read,
      lacks-spaced (expression_words d.variables e) r.plain,
    )
line_given d (Item.Statement s) st f =
    let c = f.0 in
    let r = statement_ready d s st f.1 in
    let l = short_spaced (statement_words d.variables s) r.plain in (
      line_whole d (line_text d.variables (Item.Statement s)) (codes "stmt") _ Keyword.Stmt (statement_words d.variables s) _ refl refl (omega (arith, r.few)) (omega arith) refl
          (and_from _ _ (lt-ltb 0 _ c.0) (no_run _ c.1)) (lt-leb 200 _ c.2) (words_again _ r.some r.plain) r.read,
      lacks-spaced (statement_words d.variables s) r.plain,
    )
line_given d (Item.Run n) st f =
    let c = f.0 in
    let w = plain_decimal n f.1.1 in
    let low : ltb n (length d.statements) ≡ true = lt-ltb n _ f.1.0 in (
      line_whole d (line_text d.variables (Item.Run n)) (codes "run") _ Keyword.Run (decimal n ∷ []) _ refl refl (omega (arith, w.short)) (omega arith) refl
          (and_from _ _ (lt-ltb 0 _ c.0) (lt-ltb 0 _ c.1)) (ap is_some c.2) (words_again (decimal n ∷ []) (omega arith) (w, tt)) (run_read d n low f.1.1),
      w.end,
    )
