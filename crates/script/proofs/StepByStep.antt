-- What a function makes of the words that a reader has left, one step after another. Assumes nothing.
use Rattle.std.proofs.Common.{◌≡◌, ℕ, Bool, true, false, not, List, [], ◌∷◌, Some, None, Option, sym, ap, ◌∙◌, subst, Bor}
use Rattle.std.specs.Bool.{then_some}
use Rattle.std.specs.Option.{option_and_then, is_some}
use Rattle.std.proofs.lemmas.Bool.{true≢false}
use Rattle.text.specs.Cut.{pieces_from, Handed}
use Rattle.script.specs.Words.{on_word, at_end, LastWord}

-- y is what f makes of the next word w and those after it, and the text of the reader stays
pub next_word : {X : Type 0} (f : List ℕ → List (List ℕ) → Option X) (t u : Bor (List ℕ)) (w : List ℕ) (p q : ℕ) (y : Option X) → u ≡ t
    → pieces_from 32 t.now p ≡ w ∷ pieces_from 32 t.now q → y ≡ f w (pieces_from 32 u.now q) → y ≡ on_word f (pieces_from 32 t.now p)
next_word f t u w p q y same cut h = h ∙ ap (λ (s : Bor (List ℕ)). f w (pieces_from 32 s.now q)) same ∙ sym (ap (on_word f) cut)

-- there is none where no word is left
pub no_word : {X : Type 0} (f : List ℕ → List (List ℕ) → Option X) (ws : List (List ℕ)) (y : Option X) → ws ≡ [] → y ≡ None → y ≡ on_word f ws
no_word f ws y e h = h ∙ sym (ap (on_word f) e)

-- y is what g makes of the number m that the word spells
pub a_number : {X N : Type 0} (g : N → Option X) (o : Option N) (m : N) (y : Option X) → Some m ≡ o → y ≡ g m → y ≡ option_and_then g o
a_number g o m y e h = h ∙ ap (option_and_then g) e

-- there is none where the word spells no number
pub no_number : {X N : Type 0} (g : N → Option X) (o : Option N) (y : Option X) → None ≡ o → y ≡ None → y ≡ option_and_then g o
no_number g o y e h = h ∙ ap (option_and_then g) e

-- y is x where no word is left, as a reader that was asked for one told
pub the_end : {X : Type 0} (x : X) (t : Bor (List ℕ)) (p q : ℕ) (o : Option (Bor (List ℕ))) (b : Bool) (y : Option X) → Handed 32 t p q o → is_some o ≡ not b
    → y ≡ then_some b x → y ≡ at_end x (pieces_from 32 t.now p)
the_end x t p q None true y h e r = r ∙ sym (ap (at_end x) h.0)
the_end x t p q None false y h e r = absurd (true≢false (sym e))
the_end x t p q (Some w) true y h e r = absurd (true≢false e)
the_end x t p q (Some w) false y h e r = r ∙ sym (ap (at_end x) h.1)

-- where no word is left, none is the only one
pub no_last : (ws : List (List ℕ)) (o : Option (Bor (List ℕ))) → ws ≡ [] → o ≡ None → LastWord o ws
no_last ws o e h = subst (λ (y : Option (Bor (List ℕ))). LastWord y ws) (sym h) (λ w k. cc)

-- the next word w is the only one where none is left after it
pub the_last : (w t u : Bor (List ℕ)) (p q r : ℕ) (o : Option (Bor (List ℕ))) (b : Bool) (y : Option (Bor (List ℕ))) → u ≡ t → pieces_from 32 t.now p ≡ w.now ∷ pieces_from 32 t.now q
    → Handed 32 u q r o → is_some o ≡ not b → y ≡ then_some b w → LastWord y (pieces_from 32 t.now p)
the_last w t u p q r o b y same cut h e told = subst (λ (z : Option (Bor (List ℕ))). LastWord z (pieces_from 32 t.now p)) (sym told) (by o b h e)
  where
    left : pieces_from 32 t.now q ≡ pieces_from 32 u.now q
    left = ap (λ (s : Bor (List ℕ)). pieces_from 32 s.now q) (sym same)

    by : (o : Option (Bor (List ℕ))) (b : Bool) → Handed 32 u q r o → is_some o ≡ not b → LastWord (then_some b w) (pieces_from 32 t.now p)
    by None true h e = cut ∙ ap (λ (ws : List (List ℕ)). w.now ∷ ws) (left ∙ h.0)
    by None false h e = absurd (true≢false (sym e))
    by (Some v) true h e = absurd (true≢false e)
    by (Some v) false h e = λ x k. cc (h.1)
