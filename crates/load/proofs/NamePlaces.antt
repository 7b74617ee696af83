-- The name of a variable in the text of its sheet. Assumes nothing.
use Rattle.std.proofs.Common.{◌≡◌, ℕ, zero, suc, ◌+◌, ◌<◌, ◌≤◌, List, [], ◌∷◌, map, length, get_or, take, drop, Some, None, Ok, codes, Option, refl, ap, ◌∙◌, add-one, arith, length-append, Bor}
use Rattle.std.specs.List.{flat_map}
use Rattle.std.proofs.lemmas.List.{length-map, get_or_append_left, take-append-le}
use Rattle.text.specs.Cut.{before}
use Rattle.sheet.specs.declared.elements.Variable.{Variable}
use Rattle.sheet.specs.Content.{Content, variable_at}
use Rattle.sheet.specs.SheetText.{with_line_end, name_of_variable, variable_line, body_lines}
use Rattle.sheet.specs.Limits.{VariablesOk}
use Rattle.load.specs.Parsing.{parse_sheet}
use Rattle.load.specs.LoadingLaws.{lines_in}
use Rattle.load.proofs.NameLetters.{name_plain}
use Rattle.load.proofs.WordsAndLines.{plain_letters, before-lacks}
use Rattle.load.proofs.AcceptedIsSheet.{accepted_lines, sound}
use Rattle.load.specs.Naming.{name_place, NameOf, start_of, NameAt}

map_at : (vs : List Variable) (k : ℕ) → k < length vs → get_or (map variable_line vs) k [] ≡ variable_line (variable_at vs k)
map_at [] k h = absurd (omega arith)
map_at (v ∷ vs) zero h = refl
map_at (v ∷ vs) (suc k) h = map_at vs k (omega arith)

take-map : (vs : List Variable) (k : ℕ) → take k (map variable_line vs) ≡ map variable_line (take k vs)
take-map vs zero = refl
take-map [] (suc k) = refl
take-map (v ∷ vs) (suc k) = ap (λ l. variable_line v ∷ l) (take-map vs k)

-- the line of variable k, and the bytes before it
module _ (c : Content) (k : ℕ) (h : k < length c.variables) where
  line_is : get_or (codes "sheet=2" ∷ body_lines c) (k + 1) [] ≡ variable_line (variable_at c.variables k)
  line_is =
      let n : k < length (map variable_line c.variables) = omega (arith, length-map c.variables variable_line) in
      ap (λ j. get_or (codes "sheet=2" ∷ body_lines c) j []) (add-one k) ∙ get_or_append_left (map variable_line c.variables) _ [] k n ∙ map_at c.variables k h

  start_is : start_of (codes "sheet=2" ∷ body_lines c) (k + 1) + 4 ≡ name_place c k
  start_is =
      let n : k ≤ length (map variable_line c.variables) = omega (arith, length-map c.variables variable_line) in
      ap (λ j. start_of (codes "sheet=2" ∷ body_lines c) j + 4) (add-one k)
      ∙ ap (λ ls. length (flat_map with_line_end (codes "sheet=2" ∷ ls)) + 4) (take-append-le k (map variable_line c.variables) _ n ∙ take-map c.variables k)

name_first : (vs : List Variable) (k : ℕ) → VariablesOk vs → k < length vs → before 32 (drop 4 (variable_line (variable_at vs k))) ≡ name_of_variable vs k
name_first vs k ok h =
    let p = name_plain vs k ok h in
    before-lacks 32 (name_of_variable vs k) _ (plain_letters (name_of_variable vs k) p.0 p.1).space

pub named : (s : Bor (List ℕ)) (k : ℕ) (c : Content) (r : Option (Bor (List ℕ))) → parse_sheet s.now ≡ Ok c → k < length c.variables → NameAt s (k + 1) r → NameOf s k r
named s k c None q h n =
    let l = accepted_lines s.now c q in
    let line = ap (λ ls. get_or ls (k + 1) []) l.lines ∙ line_is c k h in
    let many : k + 1 < length (lines_in s.now) = omega (arith, ap length l.lines, long c) in
    absurd (omega (arith, n l.head.some many, ap length line))
  where
    long : (b : Content) → length b.variables ≤ length (body_lines b)
    long b = simp length-append (omega (arith, length-map b.variables variable_line))
named s k c (Some x) q h n =
    let l = accepted_lines s.now c q in
    let line = ap (λ ls. get_or ls (k + 1) []) l.lines ∙ line_is c k h in
    let place = ap (λ ls. start_of ls (k + 1) + 4) l.lines ∙ start_is c k h in
    let name = ap (λ w. before 32 (drop 4 w)) line ∙ name_first c.variables k (sound s.now c q).1.variables h in
    (c, q, h, record { bytes = n.bytes ∙ name; block = n.block; offset = n.offset ∙ ap (λ m. s.ref_ptr.1 + m) place })
