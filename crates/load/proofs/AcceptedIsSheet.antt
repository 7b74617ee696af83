-- A text that is accepted is the writing of its sheet, which keeps the limits. Assumes nothing.
use Rattle.std.proofs.Common.{◌≡◌, ℕ, ◌+◌, ◌-◌, ◌<◌, ◌≤◌, ◌||◌, eqb, ltb, List, [], ◌∷◌, ◌++◌, length, take, Some, None, Ok, Err, codes, Option, Result, sym, refl, ap, ◌∙◌, subst, arith}
use Rattle.std.specs.List.{flat_map}
use Rattle.std.specs.Str.{bytes_eq}
use Rattle.std.proofs.lemmas.Slice.Eq.{bytes_eq-Decides}
use Rattle.std.proofs.lemmas.List.{take-append-drop, drop_more, drop_all}
use Rattle.std.proofs.lemmas.Bool.{or_parts, eqb-true, eqb-false, ltb-false}
use Rattle.text.specs.Cut.{parted}
use Rattle.sheet.specs.Content.{Content}
use Rattle.sheet.specs.SheetText.{with_line_end, body_lines, sheet_text}
use Rattle.sheet.specs.Limits.{Limits}
use Rattle.lines.specs.declared.items.Fault.{Fault}
use Rattle.sheet.specs.declared.item.Item.{Item}
use Rattle.sheet.specs.PartialSheet.{PartialSheet, no_lines, extended}
use Rattle.lines.specs.Lines.{line_of}
use Rattle.load.specs.declared.refusals.Refusal.{Refusal}
use Rattle.load.specs.Parsing.{content_of_lines, require_run, line_then, parse_lines, check_header, without_last_byte, last_byte, parse_sheet}
use Rattle.load.proofs.UpToFirstFault.{clash, same_ok, if_ok, unless_ok}
use Rattle.load.proofs.WordsAndLines.{ended_parted}
use Rattle.load.proofs.ReadIsWritten.{line_taken}
use Rattle.load.proofs.ItemChains.{Chain, texts, said_lines, chain_lines, Good, good_start, good_more, chain_good}

line_ok : (n : ℕ) (r : Result Item Fault) (f : Item → Result Content Refusal) (c : Content) → line_then n r f ≡ Ok c → (x : Item) × (r ≡ Ok x) × (f x ≡ Ok c)
line_ok n (Ok x) f c q = (x, refl, q)
line_ok n (Err e) f c q = absurd (clash q)

closed_ok : (n : ℕ) (d : PartialSheet) (o : Option ℕ) (c : Content) → require_run n d o ≡ Ok c → (s : ℕ) × (o ≡ Some s) × (content_of_lines d s ≡ c)
closed_ok n d None c q = absurd (clash q)
closed_ok n d (Some s) c q = (s, refl, same_ok q)

-- the lines ls are those of items that fit one after another, up to the sheet c
pub record Ran (d : PartialSheet) (ls : List (List ℕ)) (c : Content) : Type 0 where
  pub items : List Item
  pub last : PartialSheet
  pub start : ℕ
  pub chain : Chain d items last
  pub lines : ls ≡ texts d items
  pub run : last.run ≡ Some start
  pub sheet : content_of_lines last start ≡ c

pub lines_ran : (ls : List (List ℕ)) (n : ℕ) (d : PartialSheet) (c : Content) → Good d → parse_lines n d ls ≡ Ok c → Ran d ls c
lines_ran [] n d c g q =
    let e = closed_ok n d d.run c q in
    record { items = []; last = d; start = e.0; chain = refl; lines = refl; run = e.1; sheet = e.2 }
lines_ran (l ∷ ls) n d c g q =
    let p = line_ok n (line_of d l) (λ x. parse_lines (n + 1) (extended d x) ls) c q in
    let x = p.0 in
    let t = line_taken d l x g.few_statements p.1 in
    let r = lines_ran ls (n + 1) (extended d x) c (good_more d x t.1 g) p.2 in
    record { items = x ∷ r.items; last = r.last; start = r.start; chain = (t.1, r.chain); lines = λ i. t.0 i ∷ r.lines i; run = r.run; sheet = r.sheet }

last_byte_ends : (text : List ℕ) → 0 < length text → last_byte text ≡ 10 → text ≡ without_last_byte text ++ 10 ∷ []
last_byte_ends text h e =
    let k = length text - 1 in
    let past : length text ≤ k + 1 = omega arith in
    sym (take-append-drop k text) ∙ ap (λ l. take k text ++ l) (drop_more text k 0 (omega arith) ∙ (λ i. e i ∷ drop_all (k + 1) text past i))

-- what was said is written line by line
said_body : (d : PartialSheet) (n : ℕ) → d.run ≡ Some n → said_lines d ≡ body_lines (content_of_lines d n)
said_body d n e = λ i. said_lines (record { variables = d.variables; expressions = d.expressions; sizes = d.sizes; statements = d.statements; run = e i })

-- the first line, and the lines after it
pub record Head (text : List ℕ) (c : Content) : Type 0 where
  pub some : 0 < length text
  pub short : length text ≤ 16384
  pub whole : text ≡ without_last_byte text ++ 10 ∷ []
  pub rest : List (List ℕ)
  pub cut : parted 10 (without_last_byte text) ≡ codes "sheet=2" ∷ rest
  pub ran : Ran no_lines rest c

head_ran : (text : List ℕ) (ls : List (List ℕ)) (c : Content) → 0 < length text → length text ≤ 16384 → text ≡ without_last_byte text ++ 10 ∷ [] → parted 10 (without_last_byte text) ≡ ls → check_header ls ≡ Ok c → Head text c
head_ran text [] c some short whole e q = absurd (clash q)
head_ran text (l ∷ ls) c some short whole e q =
    let p = if_ok (bytes_eq l (codes "sheet=2")) (parse_lines 2 no_lines ls) Refusal.Header c q in
    record {
      some = some;
      short = short;
      whole = whole;
      rest = ls;
      cut = e ∙ ap (λ w. w ∷ ls) ((bytes_eq-Decides l (codes "sheet=2")).0 p.0);
      ran = lines_ran ls 2 no_lines c good_start p.1;
    }

pub accepted_head : (text : List ℕ) (c : Content) → parse_sheet text ≡ Ok c → Head text c
accepted_head text c q =
    let p = unless_ok (eqb (length text) 0 || ltb 16384 (length text)) _ Refusal.Length c q in
    let r = if_ok (eqb (last_byte text) 10) _ Refusal.Unended c p.1 in
    let o = or_parts (eqb (length text) 0) (ltb 16384 (length text)) p.0 in
    let some : 0 < length text = omega (arith, eqb-false (length text) 0 o.0) in
    head_ran text (parted 10 (without_last_byte text)) c some (ltb-false 16384 (length text) o.1) (last_byte_ends text some (eqb-true _ 10 r.0)) refl r.1

-- the lines of a text that is accepted
pub record LinesRead (text : List ℕ) (c : Content) : Type 0 where
  pub head : Head text c
  pub lines : parted 10 (without_last_byte text) ≡ codes "sheet=2" ∷ body_lines c
  pub good : Good head.ran.last

pub accepted_lines : (text : List ℕ) (c : Content) → parse_sheet text ≡ Ok c → LinesRead text c
accepted_lines text c q =
    let h = accepted_head text c q in
    let r = h.ran in
    let rest : h.rest ≡ body_lines c = r.lines ∙ sym (chain_lines r.items no_lines r.last r.chain) ∙ said_body r.last r.start r.run ∙ ap body_lines r.sheet in
    record { head = h; lines = h.cut ∙ ap (λ ls. codes "sheet=2" ∷ ls) rest; good = chain_good r.items no_lines r.last r.chain good_start }

pub sound : (text : List ℕ) (c : Content) → parse_sheet text ≡ Ok c → (text ≡ sheet_text c) × Limits c
sound text c q =
    let l = accepted_lines text c q in
    let h = l.head in
    let r = h.ran in
    let g = l.good in
    let is : text ≡ sheet_text c = h.whole ∙ sym (ended_parted (without_last_byte text)) ∙ ap (flat_map with_line_end) l.lines in
    let n = g.run r.start r.run in
    let kept : length (sheet_text (content_of_lines r.last r.start)) ≤ 16384 → Limits (content_of_lines r.last r.start) = λ short. record {
      counts = (n.1, g.few_variables, g.few_expressions, omega (arith, n.0), g.few_statements);
      variables = g.variables;
      expressions = g.expressions;
      sizes = g.small;
      statements = g.statements;
      run = n.0;
      text = short;
    } in
    (is, subst Limits r.sheet (kept (omega (arith, h.short, ap length is, ap (λ y. length (sheet_text y)) r.sheet))))
