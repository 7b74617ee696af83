-- What a line that is taken says: it is the writing of its item, and the item fits. Assumes nothing.
use Rattle.std.proofs.Common.{◌≡◌, ℕ, ◌<◌, ◌≤◌, Bool, true, false, cond, not, eqb, ltb, leb, List, [], ◌∷◌, ◌++◌, length, take, ℤ, nat_abs, is_some, Some, None, Ok, codes, decimal, Option, sym, refl, ap, ◌∙◌, subst, arith}
use lib.Signed.{le_z}
use Rattle.std.specs.Option.{ok_or}
use Rattle.std.specs.Fmt.{signed_decimal}
use Rattle.std.specs.Str.{bytes_eq}
use Rattle.std.proofs.lemmas.Slice.Eq.{bytes_eq-Decides}
use Rattle.std.proofs.lemmas.List.{nil_from_length}
use Rattle.std.proofs.lemmas.Bool.{cond_both, and_from, and_parts, not_from_false, not-true, ltb-true, leb-true, leb-false, le-leb, eqb-true, eqb-false}
use Rattle.text.specs.Cut.{before, after, parted}
use Rattle.text.specs.Decimals.{integer_of}
use Rattle.text.proofs.Numbers.{number_is}
use Rattle.sheet.specs.declared.elements.Variable.{Variable}
use Rattle.sheet.specs.declared.elements.Expression.{Expression}
use Rattle.sheet.specs.declared.elements.Expression.TheVariants.{Num}
use Rattle.sheet.specs.declared.elements.Statement.{Statement}
use Rattle.sheet.specs.Content.{letters_of}
use Rattle.sheet.specs.Sizes.{size}
use Rattle.sheet.specs.SheetText.{spaced, variable_words, expression_words, statement_words, variable_line, expression_line, statement_line, run_line}
use Rattle.sheet.specs.Limits.{name_of, declared, name_ok, variable_ok, expression_ok, statement_ok}
use Rattle.lines.specs.declared.items.Fault.{Fault}
use Rattle.sheet.specs.declared.item.Item.{Item}
use Rattle.lines.specs.declared.items.Keyword.{Keyword}
use Rattle.lines.specs.declared.items.Role.TheVariants as Role
use Rattle.sheet.specs.PartialSheet.{PartialSheet}
use Rattle.lines.specs.Operations.{keyword_of, bare_expression, single_expression, double_expression, bare_statement, single_statement, double_statement, triple_statement, expression_roles, statement_roles, expression_with, statement_with}
use Rattle.lines.specs.Lines.{allowed, key_full, operand_number, check_exists, then, operands, made, sized, constant, expression_of, statement_of, bound, check_not_below, fresh, variable_of, run_of, item_of, checked_key, key_in, words_in, line_of}
use Rattle.load.proofs.UpToFirstFault.{clash, same_ok, then_ok, or_ok, if_ok, unless_ok, unless_some, none_is}
use Rattle.load.proofs.WordsAndLines.{spaced-parted, key_split}
use Rattle.load.proofs.NameLetters.{name_is, named_ok}
use Rattle.load.proofs.OperandWords.{operand_says, says_ok, operands_say}
use Rattle.load.proofs.OperationWords.{Finds, statement_word, statement_arity, expression_word, expression_arity, finds_bare_statement, finds_single_statement, finds_double_statement, finds_triple_statement, finds_bare_expression, finds_single_expression, finds_double_expression, statement_words_said, statement_with_ok, expression_words_said, expression_with_ok}
use Rattle.text.specs.Words.{where_word}

-- the line of an item, in a sheet with the variables vs
abbrev pub line_text : List Variable → Item → List ℕ
line_text vs (Item.Variable v) = variable_line v
line_text vs (Item.Expression e n) = expression_line vs e
line_text vs (Item.Statement s) = statement_line vs s
line_text vs (Item.Run n) = run_line n

-- an item keeps its own rules after what d says
abbrev pub Keeps : PartialSheet → Item → Type 0
Keeps d (Item.Variable v) = variable_ok d.variables v ≡ true
Keeps d (Item.Expression e n) = (expression_ok (length d.variables) (length d.expressions) e ≡ true) × (n ≡ size d.variables d.sizes e) × (n ≤ 1000000000)
Keeps d (Item.Statement s) = statement_ok (length d.variables) (length d.expressions) (length d.statements) s ≡ true
Keeps d (Item.Run n) = (n < length d.statements) × (n < 200)

-- an item's line may come after what d says
abbrev pub Comes : PartialSheet → Item → Type 0
Comes d (Item.Variable v) = (d.expressions ≡ []) × (d.statements ≡ []) × (d.run ≡ None) × (length d.variables < 16)
Comes d (Item.Expression e n) = (0 < length d.variables) × (d.statements ≡ []) × (d.run ≡ None) × (length d.expressions < 200)
Comes d (Item.Statement s) = (0 < length d.variables) × (d.run ≡ None) × (length d.statements < 200)
Comes d (Item.Run n) = (0 < length d.variables) × (0 < length d.statements) × (d.run ≡ None)

abbrev pub Fit : PartialSheet → Item → Type 0
Fit d x = Comes d x × Keeps d x

-- ---- a variable's words
abbrev Declares : PartialSheet → List (List ℕ) → Item → Type 0
Declares d ws x = (v : Variable) × (x ≡ Item.Variable v) × (ws ≡ variable_words v) × (variable_ok d.variables v ≡ true)

variable_says : (d : PartialSheet) (ws : List (List ℕ)) (x : Item) → variable_of d ws ≡ Ok x → Declares d ws x
variable_says d [] x q = absurd (clash q)
variable_says d (n ∷ []) x q = absurd (clash q)
variable_says d (n ∷ a ∷ []) x q = absurd (clash q)
variable_says d (n ∷ a ∷ b ∷ c ∷ ws) x q = absurd (clash q)
variable_says d (n ∷ a ∷ b ∷ []) x q =
    let p = then_ok (bound 2 a) _ x q in
    let r = then_ok (bound 3 b) _ x p.2 in
    let s = then_ok (check_not_below p.0 r.0) _ x r.2 in
    let t = then_ok (fresh d n) _ x s.2 in
    let u = then_ok (ok_or (name_of n) (Fault.Name 1)) _ t.0 t.1 in
    let low = number_is 1000000 a p.0 (or_ok (integer_of 1000000 a) (Fault.Number 2) p.0 p.1) in
    let high = number_is 1000000 b r.0 (or_ok (integer_of 1000000 b) (Fault.Number 3) r.0 r.1) in
    let up = if_ok (le_z p.0 r.0) (Ok r.0) (Fault.Number 3) s.0 s.1 in
    let new = unless_ok (declared d.variables u.0) (Ok u.0) (Fault.Name 1) t.0 u.2 in
    let read : name_of n ≡ Some u.0 = or_ok (name_of n) (Fault.Name 1) u.0 u.1 in
    let e : r.0 ≡ s.0 = same_ok up.1 in
    let f : u.0 ≡ t.0 = same_ok new.1 in
    let bounds : nat_abs s.0 ≤ 1000000 = subst (λ (y : ℤ). nat_abs y ≤ 1000000) e high.1 in (
      record { name = t.0; low = p.0; high = s.0 },
      sym (same_ok t.2),
      (λ i. ((name_is n u.0 read).2 ∙ ap letters_of f) i ∷ low.0 i ∷ (high.0 ∙ ap signed_decimal e) i ∷ []),
      and_from _ _ (ap name_ok (sym f) ∙ named_ok n u.0 read) (and_from _ _ (not_from_false _ (ap (declared d.variables) (sym f) ∙ new.0))
          (and_from _ _ (le-leb _ _ low.1) (and_from _ _ (le-leb _ _ bounds) (ap (le_z p.0) (sym e) ∙ up.0)))),
    )

-- ---- an expression's words
abbrev Expresses : PartialSheet → List (List ℕ) → Item → Type 0
Expresses d ws x = (e : Expression) × (n : ℕ) × (x ≡ Item.Expression e n) × (ws ≡ expression_words d.variables e) × Keeps d (Item.Expression e n)

sized_says : (d : PartialSheet) (ws : List (List ℕ)) (e : Expression) (x : Item) → ws ≡ expression_words d.variables e → expression_ok (length d.variables) (length d.expressions) e ≡ true → sized d e ≡ Ok x → Expresses d ws x
sized_says d ws e x w ok q =
    let n = size d.variables d.sizes e in
    let p = if_ok (leb n 1000000000) (Ok (Item.Expression e n)) Fault.Size x q in
    (e, n, sym (same_ok p.1), w, (ok, refl, leb-true n 1000000000 p.0))

constant_says : (d : PartialSheet) (op a : List ℕ) (x : Item) → op ≡ codes "num" → constant d a ≡ Ok x → Expresses d (op ∷ a ∷ []) x
constant_says d op a x e q =
    let p = then_ok (ok_or (integer_of 1000000 a) (Fault.Number 2)) _ x q in
    let t = number_is 1000000 a p.0 (or_ok (integer_of 1000000 a) (Fault.Number 2) p.0 p.1) in
    sized_says d (op ∷ a ∷ []) (Num p.0) x (λ i. e i ∷ t.0 i ∷ []) (le-leb _ _ t.1) p.2

expression_by_says : (d : PartialSheet) (o : Option Expression) (n : ℕ) (w a b c : List ℕ) (x : Item) → (n ≡ 4 → ⊥) → Finds expression_word expression_arity n w o → then (made expression_roles expression_with d o a b c) (sized d) ≡ Ok x → Expresses d (w ∷ take n (a ∷ b ∷ c ∷ [])) x
expression_by_says d None n w a b c x m f q = absurd (clash q)
expression_by_says d (Some e) n w a b c x m f q =
    let u = then_ok (made expression_roles expression_with d (Some e) a b c) _ x q in
    let p = then_ok (operands d (expression_roles e) a b c) _ u.0 u.1 in
    let s = operands_say d (expression_roles e) a b c p.0 p.1 in
    let k = f e refl in
    let ws = (λ i. k.word_is i ∷ take (sym k.arity_is i) (a ∷ b ∷ c ∷ [])) ∙ expression_words_said d e a b c p.0 n k.arity_is m s in
    sized_says d _ (expression_with e p.0) x ws (expression_with_ok d e p.0 n k.arity_is m (says_ok d _ a _ s.first) (says_ok d _ b _ s.second)) (ap (sized d) (same_ok p.2) ∙ u.2)

expression_says : (d : PartialSheet) (ws : List (List ℕ)) (x : Item) → expression_of d ws ≡ Ok x → Expresses d ws x
expression_says d [] x q = absurd (clash q)
expression_says d (w ∷ []) x q = expression_by_says d (bare_expression w) 0 w [] [] [] x (λ m. omega arith) (finds_bare_expression w) q
expression_says d (w ∷ a ∷ []) x q = go (bytes_eq w (codes "num")) refl q
  where
    go : (t : Bool) → bytes_eq w (codes "num") ≡ t → cond t (constant d a) (then (made expression_roles expression_with d (single_expression w) a [] []) (sized d)) ≡ Ok x → Expresses d (w ∷ a ∷ []) x
    go true e r = constant_says d w a x ((bytes_eq-Decides w (codes "num")).0 e) r
    go false e r = expression_by_says d (single_expression w) 1 w a [] [] x (λ m. omega arith) (finds_single_expression w) r
expression_says d (w ∷ a ∷ b ∷ []) x q = expression_by_says d (double_expression w) 2 w a b [] x (λ m. omega arith) (finds_double_expression w) q
expression_says d (w ∷ a ∷ b ∷ c ∷ ws) x q = absurd (clash q)

-- ---- a statement's words
abbrev States : PartialSheet → List (List ℕ) → Item → Type 0
States d ws x = (s : Statement) × (x ≡ Item.Statement s) × (ws ≡ statement_words d.variables s) × Keeps d (Item.Statement s)

statement_by_says : (d : PartialSheet) (o : Option Statement) (n : ℕ) (w a b c : List ℕ) (x : Item) → Finds statement_word statement_arity n w o → then (made statement_roles statement_with d o a b c) (λ s. Ok (Item.Statement s)) ≡ Ok x → States d (w ∷ take n (a ∷ b ∷ c ∷ [])) x
statement_by_says d None n w a b c x f q = absurd (clash q)
statement_by_says d (Some s) n w a b c x f q =
    let u = then_ok (made statement_roles statement_with d (Some s) a b c) _ x q in
    let p = then_ok (operands d (statement_roles s) a b c) _ u.0 u.1 in
    let t = operands_say d (statement_roles s) a b c p.0 p.1 in
    let k = f s refl in (
      statement_with s p.0,
      sym (ap Item.Statement (same_ok p.2) ∙ same_ok u.2),
      (λ i. k.word_is i ∷ take (sym k.arity_is i) (a ∷ b ∷ c ∷ [])) ∙ statement_words_said d s a b c p.0 t,
      statement_with_ok d s p.0 (says_ok d _ a _ t.first) (says_ok d _ b _ t.second) (says_ok d _ c _ t.third),
    )

statement_says : (d : PartialSheet) (ws : List (List ℕ)) (x : Item) → statement_of d ws ≡ Ok x → States d ws x
statement_says d [] x q = absurd (clash q)
statement_says d (w ∷ []) x q = statement_by_says d (bare_statement w) 0 w [] [] [] x (finds_bare_statement w) q
statement_says d (w ∷ a ∷ []) x q = statement_by_says d (single_statement w) 1 w a [] [] x (finds_single_statement w) q
statement_says d (w ∷ a ∷ b ∷ []) x q = statement_by_says d (double_statement w) 2 w a b [] x (finds_double_statement w) q
statement_says d (w ∷ a ∷ b ∷ c ∷ []) x q = statement_by_says d (triple_statement w) 3 w a b c x (finds_triple_statement w) q
statement_says d (w ∷ a ∷ b ∷ c ∷ e ∷ ws) x q = absurd (clash q)

-- ---- the run line's word
abbrev Starts : PartialSheet → List (List ℕ) → Item → Type 0
Starts d ws x = (n : ℕ) × (x ≡ Item.Run n) × (ws ≡ decimal n ∷ []) × Keeps d (Item.Run n)

run_says : (d : PartialSheet) (ws : List (List ℕ)) (x : Item) → length d.statements ≤ 200 → run_of d ws ≡ Ok x → Starts d ws x
run_says d [] x few q = absurd (clash q)
run_says d (w ∷ v ∷ ws) x few q = absurd (clash q)
run_says d (w ∷ []) x few q =
    let p = then_ok (operand_number 1 (Some Role.Statement) w) _ x q in
    let r = then_ok (check_exists d 1 (Some Role.Statement) p.0) _ x p.2 in
    let s = operand_says d 1 (Some Role.Statement) w p.0 p.0 r.0 p.1 refl r.1 in
    let low : r.0 < length d.statements = ltb-true r.0 (length d.statements) s.1 in
    (r.0, sym (same_ok r.2), ap (λ y. y ∷ []) s.0, (low, omega arith))

-- ---- a line's key
abbrev key_word : Keyword → List ℕ
key_word Keyword.Sheet = codes "sheet"
key_word Keyword.Var = codes "var"
key_word Keyword.Expr = codes "expr"
key_word Keyword.Stmt = codes "stmt"
key_word Keyword.Run = codes "run"

abbrev Keyed : List ℕ → Option Keyword → Type 0
Keyed w None = Unit {0}
Keyed w (Some k) = w ≡ key_word k

key_step : (w : List ℕ) (k : Keyword) (r : Option Keyword) → Keyed w r → Keyed w (where_word w (key_word k) (Some k) r)
key_step w k r h = cond_both (bytes_eq w (key_word k)) (Some k) r (Keyed w) (λ e. (bytes_eq-Decides w (key_word k)).0 e) (λ _. h)

key_is : (w : List ℕ) → Keyed w (keyword_of w)
key_is w = key_step w Keyword.Stmt _ (key_step w Keyword.Expr _ (key_step w Keyword.Var _ (key_step w Keyword.Run _ (key_step w Keyword.Sheet _ tt))))

-- ---- a line
abbrev pub Taken : PartialSheet → List ℕ → Item → Type 0
Taken d l x = (l ≡ line_text d.variables x) × Fit d x

no_lines : {X : Type 0} (xs : List X) → eqb (length xs) 0 ≡ true → xs ≡ []
no_lines xs e = nil_from_length xs (eqb-true (length xs) 0 e)

no_run : (o : Option ℕ) → not (is_some o) ≡ true → o ≡ None
no_run o e = none_is o (not-true (is_some o) e)

line_words : (k v : List ℕ) (c : List ℕ) (ws : List (List ℕ)) → k ≡ c → parted 32 v ≡ ws → k ++ 61 ∷ v ≡ c ++ 61 ∷ spaced ws
line_words k v c ws e f = λ i. e i ++ 61 ∷ (sym (spaced-parted v) ∙ ap spaced f) i

keyed_taken : (d : PartialSheet) (w v : List ℕ) (k : Keyword) (x : Item) → length d.statements ≤ 200 → Keyed w (Some k) → allowed d k ≡ true → key_full d k ≡ false → item_of d k (parted 32 v) ≡ Ok x → Taken d (w ++ 61 ∷ v) x
keyed_taken d w v Keyword.Sheet x few n a f q = absurd (clash q)
keyed_taken d w v Keyword.Var x few n a f q =
    let s = variable_says d (parted 32 v) x q in
    let p = and_parts (eqb (length d.expressions) 0) _ a in
    let r = and_parts (eqb (length d.statements) 0) _ p.1 in
    subst (Taken d (w ++ 61 ∷ v)) (sym s.1) (line_words w v (codes "var") _ n s.2, ((no_lines _ p.0, no_lines _ r.0, no_run _ r.1, leb-false 16 _ f), s.3))
keyed_taken d w v Keyword.Expr x few n a f q =
    let s = expression_says d (parted 32 v) x q in
    let p = and_parts (ltb 0 (length d.variables)) _ a in
    let r = and_parts (eqb (length d.statements) 0) _ p.1 in
    subst (Taken d (w ++ 61 ∷ v)) (sym s.2) (line_words w v (codes "expr") _ n s.3, ((ltb-true 0 _ p.0, no_lines _ r.0, no_run _ r.1, leb-false 200 _ f), s.4))
keyed_taken d w v Keyword.Stmt x few n a f q =
    let s = statement_says d (parted 32 v) x q in
    let p = and_parts (ltb 0 (length d.variables)) _ a in
    subst (Taken d (w ++ 61 ∷ v)) (sym s.1) (line_words w v (codes "stmt") _ n s.2, ((ltb-true 0 _ p.0, no_run _ p.1, leb-false 200 _ f), s.3))
keyed_taken d w v Keyword.Run x few n a f q =
    let s = run_says d (parted 32 v) x few q in
    let p = and_parts (ltb 0 (length d.variables)) _ a in
    subst (Taken d (w ++ 61 ∷ v)) (sym s.1) (line_words w v (codes "run") _ n s.2, ((ltb-true 0 _ p.0, ltb-true 0 _ p.1, none_is _ f), s.3))

pub line_taken : (d : PartialSheet) (l : List ℕ) (x : Item) → length d.statements ≤ 200 → line_of d l ≡ Ok x → Taken d l x
line_taken d l x few q =
    let p = unless_ok (ltb 64 (length l)) _ Fault.Long x q in
    let r = then_ok (ok_or (key_in l) Fault.Key) _ x p.1 in
    let k = r.0 in
    let key = unless_some (eqb (length (before 61 l)) (length l)) (keyword_of (before 61 l)) k (or_ok (key_in l) Fault.Key k r.1) in
    let a = then_ok (checked_key d k) _ x r.2 in
    let g = if_ok (allowed d k) _ Fault.Key a.0 a.1 in
    let h = unless_ok (key_full d k) (Ok k) Fault.Many a.0 g.1 in
    let e = key_split 61 l (eqb-false (length (before 61 l)) (length l) key.0) in
    let item : item_of d k (words_in l) ≡ Ok x = ap (λ j. item_of d j (words_in l)) (same_ok h.1) ∙ a.2 in
    subst (λ y. Taken d y x) (sym e) (keyed_taken d (before 61 l) (after 61 l) k x few (subst (Keyed (before 61 l)) key.1 (key_is (before 61 l))) g.0 h.0 item)
