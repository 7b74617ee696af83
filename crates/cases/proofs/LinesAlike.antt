-- Lines that all say the same. Assumes nothing.
use Rattle.std.proofs.Common.{◌≡◌, ℕ, ◌≤◌, List, length, sym, ap, ◌∙◌, subst, Bor}
use Rattle.cases.specs.declared.part.Part.{Part}
use Rattle.cases.specs.declared.part.Part.TheVariants.{Closing, Other}
use Rattle.cases.specs.Parts.{part_in}
use Rattle.cases.specs.Blocks.{AllSay, behind_line, between, line_from, one_more}

-- one line more of the text t, which is also u, and says this
pub line_more : (t u : List ℕ) (part : Part) (s p q : ℕ) → u ≡ t → AllSay t part s p → p ≤ length u → part_in (line_from u p) ≡ part → q ≡ behind_line u p → AllSay t part s q
line_more t u part s p q e a le says f =
    let le_t = subst (λ (v : List ℕ). p ≤ length v) e le in
    let says_t = subst (λ (v : List ℕ). part_in (line_from v p) ≡ part) e says in
    let f_t : q ≡ behind_line t p = subst (λ (v : List ℕ). q ≡ behind_line v p) e f in
    subst (λ (r : ℕ). AllSay t part s r) (sym f_t) (one_more a le_t says_t)

-- what is at a place of a text is at an equal place of the same text
pub moved : {X : Type 0} (f : List ℕ → ℕ → X) (t u : Bor (List ℕ)) (p q : ℕ) → u ≡ t → q ≡ p → f u.now q ≡ f t.now p
moved f t u p q e h = ap (λ (s : Bor (List ℕ)). f s.now q) e ∙ ap (f t.now) h

-- so lines that say the same from there on do so
pub say_moved : (part : Part) (t u : Bor (List ℕ)) (p q r : ℕ) → u ≡ t → q ≡ p → AllSay u.now part q r → AllSay t.now part p r
say_moved part t u p q r e h a = subst (λ (n : ℕ). AllSay t.now part n r) h (subst (λ (s : Bor (List ℕ)). AllSay s.now part q r) e a)

-- the lines that close a run, from place p of a text up to place q
abbrev pub Closes : Bor (List ℕ) → ℕ → ℕ → Bor (List ℕ) → Type 0
Closes t p q l = (part_in (line_from t.now p) ≡ Closing) × AllSay t.now Other (behind_line t.now p) q × (l.now ≡ between t.now p q)
