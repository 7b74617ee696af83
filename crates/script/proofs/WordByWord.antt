-- What is read word by word, and what its words are. Assumes nothing.
use Rattle.std.proofs.Common.{◌≡◌, ℕ, ◌≤◌, List, [], ◌∷◌, Some, decimal, Option, refl, ap, ◌∙◌, subst, arith}
use Rattle.std.specs.Fmt.{signed_decimal}
use Rattle.std.specs.Option.{option_and_then}
use Rattle.std.proofs.lemmas.Option.{none-some, same_Some, option_and_then_some}
use Rattle.text.specs.Decimals.{natural_of, integer_of}
use Rattle.text.proofs.Numbers.{natural_is, natural_some, number_is, number_some}
use Rattle.feed.specs.declared.list.Reading.{Reading}
use Rattle.script.specs.Spelling.{reading_words, SmallReading}
use Rattle.script.specs.Words.{on_word, at_end, reading_in, count_in}

-- there was a word
pub word_some : {X P : Type 0} (f : List ℕ → List (List ℕ) → Option X) (ws : List (List ℕ)) (y : X) → on_word f ws ≡ Some y
    → ((w : List ℕ) (us : List (List ℕ)) → ws ≡ w ∷ us → f w us ≡ Some y → P) → P
word_some f [] y e go = absurd (none-some y e)
word_some f (w ∷ us) y e go = go w us refl e

-- no word was left
pub end_some : {X : Type 0} (x y : X) (ws : List (List ℕ)) → at_end x ws ≡ Some y → (ws ≡ []) × (x ≡ y)
end_some x y [] e = (refl, same_Some x y e)
end_some x y (w ∷ ws) e = absurd (none-some y e)

-- a number without a sign is read back
pub count_read : (n : ℕ) → n ≤ 1000000 → natural_of 1000000 (decimal n) ≡ Some n
count_read n h = natural_some 1000000 (decimal n) n h (omega arith) refl

-- the words of a record that was read are its words
pub reading_is : (ws : List (List ℕ)) (r : Reading) → reading_in ws ≡ Some r → (ws ≡ reading_words r) × SmallReading r
reading_is ws r e =
    word_some _ ws r e (λ s us a e. option_and_then_some _ (natural_of 1000000 s) r e (λ k p e.
    word_some _ us r e (λ v vs b e. option_and_then_some _ (natural_of 1000000 v) r e (λ x q e.
    word_some _ vs r e (λ n ts c e. option_and_then_some _ (integer_of 1000000 n) r e (λ z o e.
    let i = natural_is 1000000 s k p in
    let j = natural_is 1000000 v x q in
    let l = number_is 1000000 n z o in
    let d = end_some (record { state = k; variable = x; number = z }) r ts e in
    let words : ws ≡ decimal k ∷ decimal x ∷ signed_decimal z ∷ [] = cc in
    subst (λ (y : Reading). (ws ≡ reading_words y) × SmallReading y) d.1 (words, (i.1, j.1, l.1))))))))

-- and a record is read back from its words
pub reading_read : (ws : List (List ℕ)) (r : Reading) → ws ≡ reading_words r → SmallReading r → reading_in ws ≡ Some r
reading_read ws r e s =
    ap reading_in e
    ∙ ap (option_and_then _) (count_read r.state s.0)
    ∙ ap (option_and_then _) (count_read r.variable s.1)
    ∙ ap (option_and_then _) (number_some 1000000 (signed_decimal r.number) r.number (omega arith) refl s.2)

-- the only word is that of the number that was read
pub count_is : (ws : List (List ℕ)) (n : ℕ) → count_in ws ≡ Some n → (ws ≡ decimal n ∷ []) × (n ≤ 1000000)
count_is ws n e =
    word_some _ ws n e (λ w us a e. option_and_then_some _ (natural_of 1000000 w) n e (λ k p e.
    let i = natural_is 1000000 w k p in
    let d = end_some k n us e in
    let word : ws ≡ decimal k ∷ [] = cc in
    subst (λ (m : ℕ). (ws ≡ decimal m ∷ []) × (m ≤ 1000000)) d.1 (word, i.1)))

-- and a number is read back from its word
pub count_back : (n : ℕ) → n ≤ 1000000 → count_in (decimal n ∷ []) ≡ Some n
count_back n h = ap (option_and_then _) (count_read n h)
