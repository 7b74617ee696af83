-- The text of a record, and that of one state more. Assumes nothing.
use Rattle.std.proofs.Common.{◌≡◌, ℕ, ◌+◌, ◌<◌, ◌≤◌, true, List, [], ◌∷◌, ◌++◌, length, ℤ, sym, ap, ◌∙◌, length-append, arith}
use Rattle.record.specs.Rules.{all_small}
use Rattle.record.specs.ReadingBack.{read_states}
use Rattle.record.specs.StatesText.{state_text, states_text}
use Rattle.record.proofs.ReadBack.{states_read, length_states, shaped_read, shaped_more, none_read}
use Rattle.record.proofs.OneMoreState.{writing_none, writing_more}

-- an empty record
pub told_none : (w : ℕ) (t : List ℕ) → [] ≡ states_text (read_states w 0 t)
told_none w t = writing_none ∙ ap states_text (sym (none_read w t))

-- the text of a record with one state more
grown : (w n : ℕ) (t : List ℕ) (xs : List ℤ) → t ≡ states_text (read_states w n t) → t ++ state_text n xs ≡ states_text (read_states w n t ++ xs ∷ [])
grown w n t xs e =
    let l : 0 + length (read_states w n t) ≡ n = omega (arith, length_states w n t) in
    ap (λ (s : List ℕ). s ++ state_text n xs) e
    ∙ ap (λ (m : ℕ). states_text (read_states w n t) ++ state_text m xs) (sym l)
    ∙ sym (writing_more 0 (read_states w n t) xs)

-- that state is read back behind the others
pub listed_more : (w n : ℕ) (t u : List ℕ) (xs : List ℤ) → w ≤ 16 → n < 65535 → t ≡ states_text (read_states w n t) → length xs ≡ w → all_small xs ≡ true → u ≡ t ++ state_text n xs
    → read_states w (n + 1) u ≡ read_states w n t ++ xs ∷ []
listed_more w n t u xs v h e l s f =
    let all = read_states w n t ++ xs ∷ [] in
    let m : length all ≡ n + 1 = length-append (read_states w n t) (xs ∷ []) ∙ ap (λ (k : ℕ). k + 1) (length_states w n t) in
    (λ i. read_states w (sym m i) ((f ∙ grown w n t xs e) i)) ∙ states_read w 0 all v (omega arith) (shaped_more w (read_states w n t) xs (shaped_read w n t) l s)

-- and the text is theirs
pub told_more : (w n : ℕ) (t u : List ℕ) (xs : List ℤ) → w ≤ 16 → n < 65535 → t ≡ states_text (read_states w n t) → length xs ≡ w → all_small xs ≡ true → u ≡ t ++ state_text n xs
    → u ≡ states_text (read_states w (n + 1) u)
told_more w n t u xs v h e l s f = f ∙ grown w n t xs e ∙ ap states_text (sym (listed_more w n t u xs v h e l s f))
