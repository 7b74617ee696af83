-- Items that fit one after another: the lines that they make, and the rules that they keep. Assumes nothing.
use Rattle.std.proofs.Common.{◌≡◌, ℕ, ◌<◌, ◌≤◌, true, List, [], ◌∷◌, ◌++◌, map, length, get_or, Some, None, Option, sym, refl, ap, ◌∙◌, subst, ⊎_elim, append_assoc, append-nil, arith}
use Rattle.std.proofs.lemmas.List.{map_push, length_push, get_or_append_left, get_or_push, take-append-le, take_at}
use Rattle.std.proofs.lemmas.Bool.{cases_lt}
use Rattle.sheet.specs.declared.elements.Variable.{Variable}
use Rattle.sheet.specs.declared.elements.Expression.{Expression}
use Rattle.sheet.specs.declared.elements.Expression.TheVariants.{Last}
use Rattle.sheet.specs.declared.elements.Statement.TheVariants.{True}
use Rattle.sheet.specs.Content.{no_variable}
use Rattle.sheet.specs.Sizes.{size, sizes}
use Rattle.sheet.specs.SheetText.{variable_line, expression_line, statement_line, run_line}
use Rattle.sheet.specs.Limits.{variable_ok, expression_ok, statement_ok, VariablesOk, ExpressionsOk, SizesOk, StatementsOk}
use Rattle.sheet.proofs.LeftToRight.{tabled-push, tabled_length}
use Rattle.sheet.specs.declared.item.Item.{Item}
use Rattle.sheet.specs.PartialSheet.{PartialSheet, no_lines, extended}
use Rattle.load.proofs.UpToFirstFault.{clash_none, same_some}
use Rattle.load.proofs.OperandWords.{SteadyWords}
use Rattle.load.proofs.ReadIsWritten.{line_text, Fit}

-- the items xs fit one after another, from d to g
abbrev pub Chain : PartialSheet → List Item → PartialSheet → Type 0
Chain d [] g = d ≡ g
Chain d (x ∷ xs) g = Fit d x × Chain (extended d x) xs g

-- the lines of the items xs, after d
abbrev pub texts : PartialSheet → List Item → List (List ℕ)
texts d [] = []
texts d (x ∷ xs) = line_text d.variables x ∷ texts (extended d x) xs

-- ---- lines
abbrev pub run_lines : Option ℕ → List (List ℕ)
run_lines None = []
run_lines (Some n) = run_line n ∷ []

-- the lines of all that was said
abbrev pub said_lines : PartialSheet → List (List ℕ)
said_lines d =
    map variable_line d.variables
    ++ (map (expression_line d.variables) d.expressions ++ (map (statement_line d.variables) d.statements ++ run_lines d.run))

lines_push : (d : PartialSheet) (x : Item) → Fit d x → said_lines (extended d x) ≡ said_lines d ++ line_text d.variables x ∷ []
lines_push d (Item.Variable v) f =
    let vs = map variable_line d.variables in
    let w : List Variable = d.variables ++ v ∷ [] in
    let rest : map (expression_line w) d.expressions ++ (map (statement_line w) d.statements ++ run_lines d.run) ≡ [] = λ i. map (expression_line w) (f.0.0 i) ++ (map (statement_line w) (f.0.1 i) ++ run_lines (f.0.2 i)) in
    let old : map (expression_line d.variables) d.expressions ++ (map (statement_line d.variables) d.statements ++ run_lines d.run) ≡ [] = λ i. map (expression_line d.variables) (f.0.0 i) ++ (map (statement_line d.variables) (f.0.1 i) ++ run_lines (f.0.2 i)) in
    (λ i. map_push variable_line d.variables v i ++ rest i) ∙ append-nil (vs ++ variable_line v ∷ []) ∙ ap (λ l. l ++ variable_line v ∷ []) (sym (append-nil vs) ∙ ap (λ l. vs ++ l) (sym old))
lines_push d (Item.Expression e n) f =
    let vs = map variable_line d.variables in
    let es = map (expression_line d.variables) d.expressions in
    let y = expression_line d.variables e in
    let old : map (statement_line d.variables) d.statements ++ run_lines d.run ≡ [] = λ i. map (statement_line d.variables) (f.0.1 i) ++ run_lines (f.0.2 i) in
    (λ i. vs ++ (map_push (expression_line d.variables) d.expressions e i ++ old i)) ∙ ap (λ l. vs ++ l) (append-nil (es ++ y ∷ []))
    ∙ sym (append_assoc vs es (y ∷ [])) ∙ ap (λ l. (vs ++ l) ++ y ∷ []) (sym (append-nil es) ∙ ap (λ l. es ++ l) (sym old))
lines_push d (Item.Statement s) f =
    let vs = map variable_line d.variables in
    let es = map (expression_line d.variables) d.expressions in
    let ss = map (statement_line d.variables) d.statements in
    let y = statement_line d.variables s in
    (λ i. vs ++ (es ++ (map_push (statement_line d.variables) d.statements s i ++ run_lines (f.0.1 i)))) ∙ ap (λ l. vs ++ (es ++ l)) (append-nil (ss ++ y ∷ []))
    ∙ ap (λ l. vs ++ l) (sym (append_assoc es ss (y ∷ []))) ∙ sym (append_assoc vs (es ++ ss) (y ∷ []))
    ∙ ap (λ l. (vs ++ (es ++ l)) ++ y ∷ []) (sym (append-nil ss) ∙ (λ i. ss ++ run_lines (sym f.0.1 i)))
lines_push d (Item.Run n) f =
    let vs = map variable_line d.variables in
    let es = map (expression_line d.variables) d.expressions in
    let ss = map (statement_line d.variables) d.statements in
    let y = run_line n in
    ap (λ l. vs ++ l) (sym (append_assoc es ss (y ∷ []))) ∙ sym (append_assoc vs (es ++ ss) (y ∷ []))
    ∙ ap (λ l. (vs ++ (es ++ l)) ++ y ∷ []) (sym (append-nil ss) ∙ (λ i. ss ++ run_lines (sym f.0.2 i)))

pub chain_lines : (xs : List Item) (d g : PartialSheet) → Chain d xs g → said_lines g ≡ said_lines d ++ texts d xs
chain_lines [] d g c = ap said_lines (sym c) ∙ sym (append-nil (said_lines d))
chain_lines (x ∷ xs) d g c =
    chain_lines xs (extended d x) g c.1 ∙ ap (λ l. l ++ texts (extended d x) xs) (lines_push d x c.0) ∙ append_assoc (said_lines d) (line_text d.variables x ∷ []) (texts (extended d x) xs)

-- ---- rules
pub record Good (d : PartialSheet) : Type 0 where
  pub few_variables : length d.variables ≤ 16
  pub few_expressions : length d.expressions ≤ 200
  pub few_statements : length d.statements ≤ 200
  pub variables : VariablesOk d.variables
  pub expressions : ExpressionsOk (length d.variables) d.expressions
  pub sized : d.sizes ≡ sizes d.variables d.expressions
  pub small : SizesOk d.variables d.expressions
  pub statements : StatementsOk (length d.variables) (length d.expressions) d.statements
  pub run : (n : ℕ) → d.run ≡ Some n → (n < length d.statements) × (0 < length d.variables)

pub steady : (d : PartialSheet) → Good d → SteadyWords d
steady d g = record { names = g.variables; expressions = g.few_expressions; statements = g.few_statements }

pub good_start : Good no_lines
good_start = record {
  few_variables = omega arith;
  few_expressions = omega arith;
  few_statements = omega arith;
  variables = λ k h. absurd (omega arith);
  expressions = λ k h. absurd (omega arith);
  sized = refl;
  small = λ k h. absurd (omega arith);
  statements = λ k h. absurd (omega arith);
  run = λ n q. absurd (clash_none q);
}

-- one entry more in a table whose entries keep a rule by their place
table_push : {X : Type 0} (P : ℕ → X → Type 0) (xs : List X) (x y : X) → ((k : ℕ) → k < length xs → P k (get_or xs k y)) → P (length xs) x → (k : ℕ) → k < length (xs ++ x ∷ []) → P k (get_or (xs ++ x ∷ []) k y)
table_push P xs x y all last k h =
    ⊎_elim
    (λ lt. subst (P k) (sym (get_or_append_left xs (x ∷ []) y k lt)) (all k lt))
    (λ ge.
    let at : k ≡ length xs = omega (arith, length_push xs x) in
    subst (λ j. P j (get_or (xs ++ x ∷ []) j y)) (sym at) (subst (P (length xs)) (sym (get_or_push xs x y (length xs) refl)) last))
    (cases_lt k (length xs))

variables_push : (vs : List Variable) (v : Variable) → VariablesOk vs → variable_ok vs v ≡ true → VariablesOk (vs ++ v ∷ [])
variables_push vs v all ok k h =
    ⊎_elim
    (λ lt. (λ i. variable_ok (take-append-le k vs (v ∷ []) (omega arith) i) (get_or_append_left vs (v ∷ []) no_variable k lt i)) ∙ all k lt)
    (λ ge.
    let at : k ≡ length vs = omega (arith, length_push vs v) in
    (λ i. variable_ok (take_at vs (v ∷ []) k (sym at) i) (get_or_push vs v no_variable k (sym at) i)) ∙ ok)
    (cases_lt k (length vs))

none_yet : {X : Type 0} {P : Type 0} (xs : List X) (k : ℕ) → xs ≡ [] → k < length xs → P
none_yet xs k e h = absurd (omega (arith, ap length e))

sizes_push : (d : PartialSheet) (e : Expression) (n : ℕ) → Good d → n ≡ size d.variables d.sizes e → d.sizes ++ n ∷ [] ≡ sizes d.variables (d.expressions ++ e ∷ [])
sizes_push d e n g is =
    let s = g.sized in
    (λ i. s i ++ (is ∙ ap (λ l. size d.variables l e) s) i ∷ []) ∙ sym (tabled-push (size d.variables) d.expressions e [])

small_push : (d : PartialSheet) (e : Expression) (n : ℕ) → Good d → n ≡ size d.variables d.sizes e → n ≤ 1000000000 → SizesOk d.variables (d.expressions ++ e ∷ [])
small_push d e n g is le k h =
    let s = sizes_push d e n g is in
    let long : length d.sizes ≡ length d.expressions = ap length g.sized ∙ tabled_length (size d.variables) d.expressions [] ∙ (omega arith) in
    subst (λ l. get_or l k 0 ≤ 1000000000) s
    (table_push (λ (j m : ℕ). m ≤ 1000000000) d.sizes n 0 (λ j lt. subst (λ l. get_or l j 0 ≤ 1000000000) (sym g.sized) (g.small j (omega arith))) le k
    (omega (arith, length_push d.sizes n, length_push d.expressions e)))

pub good_more : (d : PartialSheet) (x : Item) → Fit d x → Good d → Good (extended d x)
good_more d (Item.Variable v) f g = record {
  few_variables = omega (arith, length_push d.variables v, f.0.3);
  few_expressions = g.few_expressions;
  few_statements = g.few_statements;
  variables = variables_push d.variables v g.variables f.1;
  expressions = λ k h. none_yet d.expressions k f.0.0 h;
  sized = g.sized ∙ ap (sizes d.variables) f.0.0 ∙ sym (ap (sizes (d.variables ++ v ∷ [])) f.0.0);
  small = λ k h. none_yet d.expressions k f.0.0 h;
  statements = λ k h. none_yet d.statements k f.0.1 h;
  run = λ n q. absurd (clash_none (sym f.0.2 ∙ q));
}
good_more d (Item.Expression e n) f g = record {
  few_variables = g.few_variables;
  few_expressions = omega (arith, length_push d.expressions e, f.0.3);
  few_statements = g.few_statements;
  variables = g.variables;
  expressions = table_push (λ k y. expression_ok (length d.variables) k y ≡ true) d.expressions e Last g.expressions f.1.0;
  sized = sizes_push d e n g f.1.1;
  small = small_push d e n g f.1.1 f.1.2;
  statements = λ k h. none_yet d.statements k f.0.1 h;
  run = λ m q. absurd (clash_none (sym f.0.2 ∙ q));
}
good_more d (Item.Statement s) f g = record {
  few_variables = g.few_variables;
  few_expressions = g.few_expressions;
  few_statements = omega (arith, length_push d.statements s, f.0.2);
  variables = g.variables;
  expressions = g.expressions;
  sized = g.sized;
  small = g.small;
  statements = table_push (λ k y. statement_ok (length d.variables) (length d.expressions) k y ≡ true) d.statements s True g.statements f.1;
  run = λ m q. absurd (clash_none (sym f.0.1 ∙ q));
}
good_more d (Item.Run m) f g = record {
  few_variables = g.few_variables;
  few_expressions = g.few_expressions;
  few_statements = g.few_statements;
  variables = g.variables;
  expressions = g.expressions;
  sized = g.sized;
  small = g.small;
  statements = g.statements;
  run = λ n q. (let same : m ≡ n = same_some q in omega (arith, f.1.0), f.0.0);
}

pub chain_good : (xs : List Item) (d g : PartialSheet) → Chain d xs g → Good d → Good g
chain_good [] d g c ok = subst Good c ok
chain_good (x ∷ xs) d g c ok = chain_good xs (extended d x) g c.1 (good_more d x c.0 ok)
