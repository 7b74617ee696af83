-- The calls that have no path, and their words. Assumes nothing.
use Rattle.std.proofs.Common.{◌≡◌, ℕ, ◌≤◌, Bool, true, false, cond, List, [], ◌∷◌, Some, None, codes, decimal, Option, sym, refl, ap, ◌∙◌, subst, arith, Bor}
use Rattle.std.specs.Option.{option_map, option_and_then}
use Rattle.std.specs.Str.{bytes_eq}
use Rattle.std.proofs.lemmas.Option.{none-some, same_Some, option_and_then_some}
use Rattle.std.proofs.lemmas.Bool.{true≢false}
use Rattle.std.proofs.lemmas.Slice.Eq.{bytes_eq-Decides}
use Rattle.text.specs.Cut.{parted, pieces_from}
use Rattle.text.proofs.CutsFit.{left_in}
use Rattle.text.specs.Decimals.{natural_of}
use Rattle.feed.specs.declared.list.Reading.{Reading as Readings}
use Rattle.script.specs.declared.call.Call.{Call}
use Rattle.script.specs.declared.call.Call.TheVariants.{Sheet, Table, Text, Reading, Silence, Begin, Advance, Look, Report, Abandon, Record, Name}
use Rattle.script.specs.Spelling.{call_words, SmallCall, ReadsCall}
use Rattle.script.specs.Words.{count_in, look_words_in, reading_in, bare_of, counted_of, shaped_in, plain_in}
use Rattle.script.proofs.WordByWord.{word_some, end_some, count_read, count_is, count_back, reading_is, reading_read}
use Rattle.text.proofs.Numbers.{natural_is}
use Rattle.text.specs.Words.{where_word}

-- these words are those of the call c, whose numbers are small
abbrev Told : List (List ℕ) → Call → Type 0
Told ws c = (ws ≡ call_words c) × SmallCall c

-- which of two it was
when_way : {X P : Type 0} (w v : List ℕ) (x y z : X) (t : Bool) → bytes_eq w v ≡ t → cond t x y ≡ z → (w ≡ v → x ≡ z → P) → (y ≡ z → P) → P
when_way w v x y z true e h this that = this ((bytes_eq-Decides w v).0 e) h
when_way w v x y z false e h this that = that h

when_cases : {X P : Type 0} (w v : List ℕ) (x y z : X) → where_word w v x y ≡ z → (w ≡ v → x ≡ z → P) → (y ≡ z → P) → P
when_cases w v x y z h this that = when_way w v x y z (bytes_eq w v) refl h this that

-- a word v that begins the words of the call c, which was read
word_of : (w v : List ℕ) (ws : List (List ℕ)) (c d : Call) → w ≡ v → Some c ≡ Some d → Told (v ∷ ws) c → Told (w ∷ ws) d
word_of w v ws c d a e h = subst (Told (w ∷ ws)) (same_Some c d e) (ap (λ (x : List ℕ). x ∷ ws) a ∙ h.0, h.1)

bare_is : (w : List ℕ) (c : Call) → bare_of w ≡ Some c → Told (w ∷ []) c
bare_is w c e =
    when_cases w (codes "silence") _ _ _ e (λ a e. word_of w _ [] Silence c a e (refl, tt)) (λ e.
    when_cases w (codes "begin") _ _ _ e (λ a e. word_of w _ [] Begin c a e (refl, tt)) (λ e.
    when_cases w (codes "report") _ _ _ e (λ a e. word_of w _ [] Report c a e (refl, tt)) (λ e.
    when_cases w (codes "abandon") _ _ _ e (λ a e. word_of w _ [] Abandon c a e (refl, tt)) (λ e.
    when_cases w (codes "record") _ _ _ e (λ a e. word_of w _ [] Record c a e (refl, tt)) (λ e.
    absurd (none-some c e))))))

counted_is : (w : List ℕ) (n : ℕ) (c : Call) → n ≤ 1000000 → counted_of w n ≡ Some c → Told (w ∷ decimal n ∷ []) c
counted_is w n c h e =
    when_cases w (codes "table") _ _ _ e (λ a e. word_of w _ _ (Table n) c a e (refl, h)) (λ e.
    when_cases w (codes "text") _ _ _ e (λ a e. word_of w _ _ (Text n) c a e (refl, h)) (λ e.
    when_cases w (codes "advance") _ _ _ e (λ a e. word_of w _ _ (Advance n) c a e (refl, h)) (λ e.
    when_cases w (codes "name") _ _ _ e (λ a e. word_of w _ _ (Name n) c a e (refl, h)) (λ e.
    absurd (none-some c e)))))

look_is : (w : List ℕ) (ws : List (List ℕ)) (c : Call) → w ≡ codes "look" → look_words_in ws ≡ Some c → Told (w ∷ ws) c
look_is w ws c l e =
    word_some _ ws c e (λ s us a e. option_and_then_some _ (natural_of 1000000 s) c e (λ k p e.
    word_some _ us c e (λ v vs b e. option_and_then_some _ (natural_of 1000000 v) c e (λ x q e.
    let i = natural_is 1000000 s k p in
    let j = natural_is 1000000 v x q in
    let d = end_some (Look k x) c vs e in
    let words : w ∷ ws ≡ codes "look" ∷ decimal k ∷ decimal x ∷ [] = cc in
    subst (Told (w ∷ ws)) d.1 (words, (i.1, j.1))))))

reading_told : (w : List ℕ) (ws : List (List ℕ)) (c : Call) (o : Option Readings) → w ≡ codes "reading" → reading_in ws ≡ o → option_map Reading o ≡ Some c → Told (w ∷ ws) c
reading_told w ws c None a r e = absurd (none-some c e)
reading_told w ws c (Some x) a r e =
    let h = reading_is ws x r in
    subst (Told (w ∷ ws)) (same_Some (Reading x) c e) ((λ i. a i ∷ h.0 i), h.1)

shaped_is : (w : List ℕ) (ws : List (List ℕ)) (c : Call) (o : Option Call) → bare_of w ≡ o → shaped_in o w ws ≡ Some c → Told (w ∷ ws) c
shaped_is w ws c (Some d) b e =
    let p = end_some d c ws e in
    subst (λ (us : List (List ℕ)). Told (w ∷ us) c) (sym p.0) (bare_is w c (b ∙ ap Some p.1))
shaped_is w ws c None b e =
    option_and_then_some (counted_of w) (count_in ws) c e (λ n p q.
    let h = count_is ws n p in
    subst (λ (us : List (List ℕ)). Told (w ∷ us) c) (sym h.0) (counted_is w n c h.1 q))

-- what was read is what the words spell
plain_is : (w : List ℕ) (ws : List (List ℕ)) (c : Call) → plain_in w ws ≡ Some c → Told (w ∷ ws) c
plain_is w ws c e =
    when_cases w (codes "look") _ _ _ e (λ a e. look_is w ws c a e) (λ e.
    when_cases w (codes "reading") _ _ _ e (λ a e. reading_told w ws c (reading_in ws) a refl e) (λ e.
    shaped_is w ws c (bare_of w) refl e))

-- equal words are read alike
alike : (w v : List ℕ) (ws vs : List (List ℕ)) → w ∷ ws ≡ v ∷ vs → plain_in w ws ≡ plain_in v vs
alike w v ws vs e = let a : w ≡ v = cc in let b : ws ≡ vs = cc in λ i. plain_in (a i) (b i)

-- and what words spell is read
plain_read : (w : List ℕ) (ws : List (List ℕ)) (c : Call) → w ∷ ws ≡ call_words c → SmallCall c → (w ≡ codes "sheet" → ⊥) → plain_in w ws ≡ Some c
plain_read w ws (Sheet f) e s n = absurd (n (cc))
plain_read w ws (Table m) e s n = alike w _ ws _ e ∙ ap (option_and_then (counted_of (codes "table"))) (count_back m s)
plain_read w ws (Text m) e s n = alike w _ ws _ e ∙ ap (option_and_then (counted_of (codes "text"))) (count_back m s)
plain_read w ws (Reading r) e s n = alike w _ ws _ e ∙ ap (option_map Reading) (reading_read _ r refl s)
plain_read w ws Silence e s n = alike w _ ws _ e
plain_read w ws Begin e s n = alike w _ ws _ e
plain_read w ws (Advance m) e s n = alike w _ ws _ e ∙ ap (option_and_then (counted_of (codes "advance"))) (count_back m s)
plain_read w ws (Look k x) e s n = alike w _ ws _ e ∙ ap (option_and_then _) (count_read k s.0) ∙ ap (option_and_then _) (count_read x s.1)
plain_read w ws Report e s n = alike w _ ws _ e
plain_read w ws Abandon e s n = alike w _ ws _ e
plain_read w ws Record e s n = alike w _ ws _ e
plain_read w ws (Name m) e s n = alike w _ ws _ e ∙ ap (option_and_then (counted_of (codes "name"))) (count_back m s)

-- so it is the call that the line l spells, whose words t has from place p on, the first of which is w
pub reads_plain : (l t : Bor (List ℕ)) (w : List ℕ) (p q : ℕ) (o : Option Call) → t ≡ l → p ≡ 0 → pieces_from 32 t.now p ≡ w ∷ pieces_from 32 t.now q → bytes_eq w (codes "sheet") ≡ false
    → o ≡ plain_in w (pieces_from 32 t.now q) → ReadsCall l.now o
reads_plain l t w p q o e z cut other read = by o read
  where
    words : parted 32 l.now ≡ w ∷ pieces_from 32 t.now q
    words = sym (ap (λ (s : Bor (List ℕ)). pieces_from 32 s.now p) e ∙ ap (pieces_from 32 l.now) z ∙ left_in 32 l.now 0 (omega arith)) ∙ cut

    by : (o : Option Call) → o ≡ plain_in w (pieces_from 32 t.now q) → ReadsCall l.now o
    by None r = λ c s. none-some c (r ∙ plain_read w _ c (sym words ∙ s.0) s.1 (λ a. true≢false (sym ((bytes_eq-Decides w (codes "sheet")).1 a) ∙ other)))
    by (Some c) r = let h = plain_is w _ c (sym r) in (words ∙ h.0, h.1)
