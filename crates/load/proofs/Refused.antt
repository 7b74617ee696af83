-- Why a text is refused. Assumes nothing.
use Rattle.std.proofs.Common.{◌≡◌, ℕ, zero, suc, ◌+◌, Bool, true, false, cond, ◌||◌, eqb, ltb, List, [], ◌∷◌, length, get_or, take, drop, Some, None, Ok, Err, codes, Option, Result, sym, refl, ap, ◌∙◌, subst, inl, inr, arith}
use Rattle.std.specs.Str.{bytes_eq}
use Rattle.std.proofs.lemmas.Slice.Eq.{bytes_eq-Decides}
use Rattle.std.proofs.lemmas.Bool.{eqb-true, eqb-false, ltb-true, ltb-false}
use Rattle.text.specs.Cut.{parted}
use Rattle.lines.specs.declared.items.Fault.{Fault}
use Rattle.sheet.specs.declared.item.Item.{Item}
use Rattle.sheet.specs.PartialSheet.{PartialSheet, no_lines, extended}
use Rattle.lines.specs.Lines.{line_of}
use Rattle.lines.proofs.KeyAndWords.{parted_some}
use Rattle.lines.specs.Faults.{fault_applies}
use Rattle.lines.proofs.FirstFault.{first_fault}
use Rattle.load.specs.declared.refusals.Refusal.{Refusal}
use Rattle.load.specs.Parsing.{require_run, line_then, parse_lines, check_header, without_last_byte, last_byte, parse_sheet}
use Rattle.load.specs.LoadingLaws.{after_line, after_lines, Faultless, FirstAt, lines_in, later_lines, Sized, FirstReason}

-- no answer is a refusal
clash : {A E : Type 0} {x : A} {e : E} → ◌≡◌ {A = Result A E} (Ok x) (Err e) → ⊥
clash q = let z : ◌≡◌ {A = ℕ} 0 1 = cc in omega arith

same_err : {A E : Type 0} {x y : E} → ◌≡◌ {A = Result A E} (Err x) (Err y) → x ≡ y
same_err q = cc

-- why the lines ls, from line n on and after d, are refused
abbrev Refuses : ℕ → PartialSheet → List (List ℕ) → Refusal → Type 0
Refuses n d ls Refusal.Length = ⊥
Refuses n d ls Refusal.Unended = ⊥
Refuses n d ls Refusal.Header = ⊥
Refuses n d ls (Refusal.Line m f) = (j : ℕ) × (m ≡ n + j) × FirstAt d ls j f
Refuses n d ls (Refusal.NoRun m) = (m ≡ n + length ls) × Faultless d ls (length ls) × ((after_lines d ls).run ≡ None)

end_refuses : (n : ℕ) (d : PartialSheet) (o : Option ℕ) (r : Refusal) → d.run ≡ o → require_run n d o ≡ Err r → Refuses n d [] r
end_refuses n d (Some s) r e q = absurd (clash q)
end_refuses n d None r e q = subst (Refuses n d []) (same_err q) (omega arith, (λ i h. absurd (omega arith)), e)

-- one line ahead that has no fault
faultless_more : (d : PartialSheet) (l : List ℕ) (ls : List (List ℕ)) (x : Item) (j : ℕ) → line_of d l ≡ Ok x → Faultless (extended d x) ls j → Faultless d (l ∷ ls) (suc j)
faultless_more d l ls x j e f zero h g = (first_fault d l).1 x e g
faultless_more d l ls x j e f (suc i) h g = ap (λ r. fault_applies (after_lines (after_line d r) (take i ls)) (get_or ls i []) g) e ∙ f i (omega arith) g

line_refuses : (n : ℕ) (d : PartialSheet) (l : List ℕ) (ls : List (List ℕ)) (x : Item) (r : Refusal) → line_of d l ≡ Ok x → Refuses (n + 1) (extended d x) ls r → Refuses n d (l ∷ ls) r
line_refuses n d l ls x Refusal.Length e f = f
line_refuses n d l ls x Refusal.Unended e f = f
line_refuses n d l ls x Refusal.Header e f = f
line_refuses n d l ls x (Refusal.Line m g) e f =
    let a = f.2 in
    let j = f.0 in (
      suc j,
      omega (arith, f.1),
      record {
        there = omega (arith, a.there);
        earlier = faultless_more d l ls x j e a.earlier;
        fault = ap (λ r. fault_applies (after_lines (after_line d r) (take j ls)) (get_or ls j []) g) e ∙ a.fault;
        smaller = λ h b. ap (λ r. fault_applies (after_lines (after_line d r) (take j ls)) (get_or ls j []) h) e ∙ a.smaller h b;
      },
    )
line_refuses n d l ls x (Refusal.NoRun m) e f =
    (omega (arith, f.0), faultless_more d l ls x (length ls) e f.1, ap (λ (r : Result Item Fault). (after_lines (after_line d r) ls).run) e ∙ f.2)

lines_refuse : (ls : List (List ℕ)) (n : ℕ) (d : PartialSheet) (r : Refusal) → parse_lines n d ls ≡ Err r → Refuses n d ls r
lines_refuse [] n d r q = end_refuses n d d.run r refl q
lines_refuse (l ∷ ls) n d r q = go (line_of d l) refl (λ x. lines_refuse ls (n + 1) (extended d x) r) q
  where
    go : (o : Result Item Fault) → line_of d l ≡ o → ((x : Item) → parse_lines (n + 1) (extended d x) ls ≡ Err r → Refuses (n + 1) (extended d x) ls r) → line_then n o (λ x. parse_lines (n + 1) (extended d x) ls) ≡ Err r → Refuses n d (l ∷ ls) r
    go (Ok x) e rec p = line_refuses n d l ls x r e (rec x p)
    go (Err f) e rec p =
        let t = (first_fault d l).0 f e in
        subst (Refuses n d (l ∷ ls)) (same_err p) (0, omega arith, record { there = omega arith; earlier = λ i h. absurd (omega arith); fault = t.0; smaller = t.1 })

-- the reasons below the first line are those of the text
lift : (text l : List ℕ) (ls : List (List ℕ)) (r : Refusal) → Sized text → last_byte text ≡ 10 → lines_in text ≡ l ∷ ls → l ≡ codes "sheet=2" → Refuses 2 no_lines ls r → FirstReason text r
lift text l ls Refusal.Length s b e h f = absurd f
lift text l ls Refusal.Unended s b e h f = absurd f
lift text l ls Refusal.Header s b e h f = absurd f
lift text l ls (Refusal.Line n g) s b e h f =
    let later : later_lines text ≡ ls = ap (drop 1) e in
    (s, b, ap (λ ws. get_or ws 0 []) e ∙ h, (f.0, f.1, subst (λ ws. FirstAt no_lines ws f.0 g) (sym later) f.2))
lift text l ls (Refusal.NoRun n) s b e h f =
    let later : ls ≡ later_lines text = sym (ap (drop 1) e) in
    (s, b, ap (λ ws. get_or ws 0 []) e ∙ h, f.0 ∙ ap (λ ws. 2 + length ws) later, subst (λ ws. Faultless no_lines ws (length ws)) later f.1, ap (λ (ws : List (List ℕ)). (after_lines no_lines ws).run) (sym later) ∙ f.2)

headed_refuses : (text : List ℕ) (ls : List (List ℕ)) (r : Refusal) → Sized text → last_byte text ≡ 10 → lines_in text ≡ ls → check_header ls ≡ Err r → FirstReason text r
headed_refuses text [] r s b e q = absurd (parted_some 10 (without_last_byte text) e)
headed_refuses text (l ∷ ls) r s b e q = go (bytes_eq l (codes "sheet=2")) refl q
  where
    go : (t : Bool) → bytes_eq l (codes "sheet=2") ≡ t → cond t (parse_lines 2 no_lines ls) (Err Refusal.Header) ≡ Err r → FirstReason text r
    go true h p = lift text l ls r s b e ((bytes_eq-Decides l (codes "sheet=2")).0 h) (lines_refuse ls 2 no_lines r p)
    go false h p =
        subst (FirstReason text) (same_err p)
        (s, b, λ z. let same : bytes_eq l (codes "sheet=2") ≡ true = (bytes_eq-Decides l (codes "sheet=2")).1 (sym (ap (λ ws. get_or ws 0 []) e) ∙ z) in apart (sym same ∙ h))
      where
        apart : ◌≡◌ {A = Bool} true false → ⊥
        apart x = let y : ◌≡◌ {A = ℕ} 0 1 = cc in omega arith

pub refused : (text : List ℕ) (r : Refusal) → parse_sheet text ≡ Err r → FirstReason text r
refused text r q = go (eqb (length text) 0) (ltb 16384 (length text)) refl refl q
  where
    ends : (t : Bool) → eqb (last_byte text) 10 ≡ t → Sized text → cond t (check_header (parted 10 (without_last_byte text))) (Err Refusal.Unended) ≡ Err r → FirstReason text r
    ends true e s p = headed_refuses text (lines_in text) r s (eqb-true _ 10 e) refl p
    ends false e s p = subst (FirstReason text) (same_err p) (s, eqb-false _ 10 e)

    go : (a b : Bool) → eqb (length text) 0 ≡ a → ltb 16384 (length text) ≡ b → cond (a || b) (Err Refusal.Length) (cond (eqb (last_byte text) 10) (check_header (parted 10 (without_last_byte text))) (Err Refusal.Unended)) ≡ Err r → FirstReason text r
    go true b e f p = subst (FirstReason text) (same_err p) (inl (eqb-true (length text) 0 e))
    go false true e f p = subst (FirstReason text) (same_err p) (inr (ltb-true 16384 (length text) f))
    go false false e f p = ends (eqb (last_byte text) 10) refl (omega (arith, eqb-false (length text) 0 e), ltb-false 16384 (length text) f) p
