-- The writing of a sheet that keeps the limits is accepted as that sheet. Assumes nothing.
use Rattle.std.proofs.Common.{◌≡◌, ℕ, ◌+◌, ◌-◌, ◌<◌, ◌≤◌, true, ◌||◌, eqb, ltb, List, [], ◌∷◌, ◌++◌, map, length, get_or, take, Some, None, Ok, codes, Option, Result, sym, refl, ap, ◌∙◌, subst, append_assoc, append-nil, arith, length-append}
use Rattle.std.specs.List.{flat_map}
use Rattle.std.proofs.lemmas.List.{take_at, get_or_at, length_push}
use Rattle.std.proofs.lemmas.Bool.{or_from, ne_eqb, eq-eqb, le-ltb, cond-true, cond-false}
use Rattle.text.specs.Cut.{parted}
use Rattle.sheet.specs.declared.elements.Variable.{Variable}
use Rattle.sheet.specs.declared.elements.Expression.{Expression}
use Rattle.sheet.specs.declared.elements.Expression.TheVariants.{Last}
use Rattle.sheet.specs.declared.elements.Statement.{Statement}
use Rattle.sheet.specs.declared.elements.Statement.TheVariants.{True}
use Rattle.sheet.specs.Content.{Content, no_variable}
use Rattle.sheet.specs.Sizes.{tabled, size, sizes}
use Rattle.sheet.specs.SheetText.{with_line_end, body_lines, sheet_text}
use Rattle.sheet.specs.Limits.{variable_ok, expression_ok, statement_ok, VariablesOk, ExpressionsOk, StatementsOk, Limits}
use Rattle.sheet.proofs.LeftToRight.{tabled_front}
use Rattle.sheet.specs.declared.item.Item.{Item}
use Rattle.sheet.specs.PartialSheet.{PartialSheet, no_lines, extended}
use Rattle.load.specs.Parsing.{content_of_lines, require_run, line_then, parse_lines, check_header, last_byte, parse_sheet}
use Rattle.load.proofs.WordsAndLines.{lacks, parted-one, parted-more}
use Rattle.load.proofs.WrittenIsRead.{line_given}
use Rattle.load.proofs.ItemChains.{Chain, texts, chain_lines, Good, good_start, good_more, steady}

-- ---- lines put together are cut apart again
abbrev AllLack : List (List ℕ) → Type 0
AllLack [] = Unit {0}
AllLack (l ∷ ls) = (lacks 10 l ≡ true) × AllLack ls

record Front (ls : List (List ℕ)) : Type 0 where
  front : List ℕ
  whole : flat_map with_line_end ls ≡ front ++ 10 ∷ []
  parts : parted 10 front ≡ ls

front_of : (l : List ℕ) (ls : List (List ℕ)) → AllLack (l ∷ ls) → Front (l ∷ ls)
front_of l [] p = record { front = l; whole = append-nil (with_line_end l); parts = parted-one 10 l p.0 }
front_of l (m ∷ ls) p =
    let r = front_of m ls p.1 in
    record {
      front = l ++ 10 ∷ r.front;
      whole = ap (λ t. with_line_end l ++ t) r.whole ∙ append_assoc l (10 ∷ []) (r.front ++ 10 ∷ []) ∙ sym (append_assoc l (10 ∷ r.front) (10 ∷ []));
      parts = parted-more 10 l r.front p.0 ∙ ap (λ t. l ∷ t) r.parts;
    }

-- ---- items that fit one after another are taken
texts_lack : (xs : List Item) (d g : PartialSheet) → Good d → Chain d xs g → AllLack (texts d xs)
texts_lack [] d g ok c = tt
texts_lack (x ∷ xs) d g ok c = ((line_given d x (steady d ok) c.0).1, texts_lack xs (extended d x) g (good_more d x c.0 ok) c.1)

lines_taken : (xs : List Item) (n s : ℕ) (d g : PartialSheet) → Good d → Chain d xs g → g.run ≡ Some s → parse_lines n d (texts d xs) ≡ Ok (content_of_lines g s)
lines_taken [] n s d g ok c r = ap (λ (k : PartialSheet). require_run n k k.run) c ∙ ap (require_run n g) r
lines_taken (x ∷ xs) n s d g ok c r =
    ap (λ t. line_then n t (λ y. parse_lines (n + 1) (extended d y) (texts (extended d x) xs))) (line_given d x (steady d ok) c.0).0 ∙ lines_taken xs (n + 1) s (extended d x) g (good_more d x c.0 ok) c.1 r

-- ---- the items of a sheet
abbrev at : List Variable → List Expression → List ℕ → List Statement → Option ℕ → PartialSheet
at vs es ns ss r = record { variables = vs; expressions = es; sizes = ns; statements = ss; run = r }

-- expressions with their sizes, where the sizes of those before are ns
abbrev sized_items : List Variable → List ℕ → List Expression → List Item
sized_items vs ns [] = []
sized_items vs ns (e ∷ es) = Item.Expression e (size vs ns e) ∷ sized_items vs (ns ++ size vs ns e ∷ []) es

chain_variables : (all done rest : List Variable) (xs : List Item) (g : PartialSheet) → all ≡ done ++ rest → length all ≤ 16 → VariablesOk all → Chain (at all [] [] [] None) xs g → Chain (at done [] [] [] None) (map Item.Variable rest ++ xs) g
chain_variables all done [] xs g e few ok c = subst (λ l. Chain (at l [] [] [] None) xs g) (e ∙ append-nil done) c
chain_variables all done (v ∷ vs) xs g e few ok c =
    let n : length all ≡ length done + length (v ∷ vs) = ap length e ∙ length-append done (v ∷ vs) in
    let is : get_or all (length done) no_variable ≡ v = ap (λ l. get_or l (length done) no_variable) e ∙ get_or_at done v vs no_variable (length done) refl in
    let front : take (length done) all ≡ done = ap (take (length done)) e ∙ take_at done (v ∷ vs) (length done) refl in (
      ((refl, refl, refl, omega arith), (λ i. variable_ok (sym front i) (sym is i)) ∙ ok (length done) (omega arith)),
      chain_variables all (done ++ v ∷ []) vs xs g (e ∙ sym (append_assoc done (v ∷ []) vs)) few ok c,
    )

chain_expressions : (vs : List Variable) (all done rest : List Expression) (ns : List ℕ) (xs : List Item) (g : PartialSheet) → 0 < length vs → all ≡ done ++ rest → length ns ≡ length done → length all ≤ 200 → ExpressionsOk (length vs) all
    → ((k : ℕ) → k < length all → get_or (tabled (size vs) rest ns) k 0 ≤ 1000000000) → Chain (at vs all (tabled (size vs) rest ns) [] None) xs g → Chain (at vs done ns [] None) (sized_items vs ns rest ++ xs) g
chain_expressions vs all done [] ns xs g some e long few ok small c = subst (λ l. Chain (at vs l ns [] None) xs g) (e ∙ append-nil done) c
chain_expressions vs all done (x ∷ es) ns xs g some e long few ok small c =
    let n : length all ≡ length done + length (x ∷ es) = ap length e ∙ length-append done (x ∷ es) in
    let is : get_or all (length done) Last ≡ x = ap (λ l. get_or l (length done) Last) e ∙ get_or_at done x es Last (length done) refl in
    let here : get_or (tabled (size vs) (x ∷ es) ns) (length done) 0 ≡ size vs ns x =
    tabled_front (size vs) es (ns ++ size vs ns x ∷ []) (length done) 0 (omega (arith, length_push ns (size vs ns x))) ∙ get_or_at ns (size vs ns x) [] 0 (length done) long in (
      ((some, refl, refl, omega arith), (ap (expression_ok (length vs) (length done)) (sym is) ∙ ok (length done) (omega arith), refl, omega (arith, here, small (length done) (omega arith)))),
      chain_expressions vs all (done ++ x ∷ []) es (ns ++ size vs ns x ∷ []) xs g some (e ∙ sym (append_assoc done (x ∷ []) es))
          (omega (arith, length_push ns (size vs ns x), length_push done x)) few ok small c,
    )

chain_statements : (vs : List Variable) (es : List Expression) (ns : List ℕ) (all done rest : List Statement) (xs : List Item) (g : PartialSheet) → 0 < length vs → all ≡ done ++ rest → length all ≤ 200 → StatementsOk (length vs) (length es) all
    → Chain (at vs es ns all None) xs g → Chain (at vs es ns done None) (map Item.Statement rest ++ xs) g
chain_statements vs es ns all done [] xs g some e few ok c = subst (λ l. Chain (at vs es ns l None) xs g) (e ∙ append-nil done) c
chain_statements vs es ns all done (s ∷ ss) xs g some e few ok c =
    let n : length all ≡ length done + length (s ∷ ss) = ap length e ∙ length-append done (s ∷ ss) in
    let is : get_or all (length done) True ≡ s = ap (λ l. get_or l (length done) True) e ∙ get_or_at done s ss True (length done) refl in (
      ((some, refl, omega arith), ap (statement_ok (length vs) (length es) (length done)) (sym is) ∙ ok (length done) (omega arith)),
      chain_statements vs es ns all (done ++ s ∷ []) ss xs g some (e ∙ sym (append_assoc done (s ∷ []) ss)) few ok c,
    )

-- all that a sheet says
abbrev whole : Content → PartialSheet
whole c = at c.variables c.expressions (sizes c.variables c.expressions) c.statements (Some c.run)

abbrev items : Content → List Item
items c = map Item.Variable c.variables ++ (sized_items c.variables [] c.expressions ++ (map Item.Statement c.statements ++ Item.Run c.run ∷ []))

sheet_chain : (c : Content) → Limits c → Chain no_lines (items c) (whole c)
sheet_chain c l =
    let some = l.counts.0 in
    let end : Chain (at c.variables c.expressions (sizes c.variables c.expressions) c.statements None) (Item.Run c.run ∷ []) (whole c) =
    (((some, l.counts.3, refl), (l.run, omega (arith, l.run, l.counts.4))), refl) in
    let third = chain_statements c.variables c.expressions (sizes c.variables c.expressions) c.statements [] c.statements _ (whole c) some refl l.counts.4 l.statements end in
    let second = chain_expressions c.variables c.expressions [] c.expressions [] _ (whole c) some refl refl l.counts.2 l.expressions l.sizes third in
    chain_variables c.variables [] c.variables _ (whole c) refl l.counts.1 l.variables second

-- ---- the text
pub text_taken : (text front : List ℕ) (ls : List (List ℕ)) (r : Result Content _) → text ≡ front ++ 10 ∷ [] → length text ≤ 16384 → parted 10 front ≡ ls → check_header ls ≡ r → parse_sheet text ≡ r
text_taken text front ls r e short parts q =
    let n : length text ≡ length front + 1 = ap length e ∙ length-append front (10 ∷ []) in
    let k : length front ≡ length text - 1 = omega arith in
    cond-false (eqb (length text) 0 || ltb 16384 (length text)) _ _ (or_from _ _ (ne_eqb _ 0 (λ z. omega arith)) (le-ltb 16384 _ short))
    ∙ cond-true (eqb (last_byte text) 10) _ _ (eq-eqb _ 10 (ap (λ l. get_or l (length text - 1) 0) e ∙ get_or_at front 10 [] 0 (length text - 1) k))
    ∙ ap (λ l. check_header (parted 10 l)) (ap (take (length text - 1)) e ∙ take_at front (10 ∷ []) (length text - 1) k)
    ∙ ap check_header parts ∙ q

pub complete : (text : List ℕ) (c : Content) → text ≡ sheet_text c → Limits c → parse_sheet text ≡ Ok c
complete text c e l =
    let ch = sheet_chain c l in
    let lines : body_lines c ≡ texts no_lines (items c) = chain_lines (items c) no_lines (whole c) ch in
    let f = front_of (codes "sheet=2") (texts no_lines (items c)) (refl, texts_lack (items c) no_lines (whole c) good_start ch) in
    let is : text ≡ f.front ++ 10 ∷ [] = e ∙ ap (λ ls. flat_map with_line_end (codes "sheet=2" ∷ ls)) lines ∙ f.whole in
    text_taken text f.front (codes "sheet=2" ∷ texts no_lines (items c)) (Ok c) is (omega (arith, l.text, ap length e)) f.parts (lines_taken (items c) 2 c.run no_lines (whole c) good_start ch refl)
