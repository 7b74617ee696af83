-- What is read word by word. The functions that read for the public ones are held to it. Assumes nothing.
use Rattle.std.specs.Prelude.{◌≡◌, ℕ, List, [], ◌∷◌, Some, None, Option, codes}
use Rattle.std.specs.Borrow.{Bor}
use Rattle.std.specs.Option.{option_map, option_and_then}
use Rattle.text.specs.Decimals.{natural_of, integer_of}
use Rattle.feed.specs.declared.list.Reading.{Reading as Readings}
use Rattle.script.specs.declared.call.Call.{Call}
use Rattle.script.specs.declared.call.Call.TheVariants.{Table, Text, Reading, Silence, Begin, Advance, Look, Report, Abandon, Record, Name}
use Rattle.text.specs.Words.{where_word}

-- what f makes of the first word and those after it; none where there is no word
abbrev pub on_word : {X : Type 0} → (List ℕ → List (List ℕ) → Option X) → List (List ℕ) → Option X
on_word f [] = None
on_word f (w ∷ ws) = f w ws

-- x, where no word is left
abbrev pub at_end : {X : Type 0} → X → List (List ℕ) → Option X
at_end x [] = Some x
at_end x (w ∷ ws) = None

-- r is the only word of ws, or there is not exactly one
abbrev pub LastWord : Option (Bor (List ℕ)) → List (List ℕ) → Type 0
LastWord None ws = (w : List ℕ) → ws ≡ w ∷ [] → ⊥
LastWord (Some r) ws = ws ≡ r.now ∷ []

-- the record that words spell
abbrev pub reading_in : List (List ℕ) → Option Readings
reading_in =
    on_word (λ s ws. option_and_then (λ k. on_word (λ v us. option_and_then (λ x. on_word (λ n ts. option_and_then (λ z.
    at_end (record { state = k; variable = x; number = z }) ts) (integer_of 1000000 n)) us) (natural_of 1000000 v)) ws) (natural_of 1000000 s))

-- the number that the only word spells
abbrev pub count_in : List (List ℕ) → Option ℕ
count_in = on_word (λ w ws. option_and_then (λ n. at_end n ws) (natural_of 1000000 w))

-- the look that two words spell
abbrev pub look_words_in : List (List ℕ) → Option Call
look_words_in = on_word (λ s ws. option_and_then (λ k. on_word (λ v us. option_and_then (λ x. at_end (Look k x) us) (natural_of 1000000 v)) ws) (natural_of 1000000 s))

-- the call that a word alone spells
abbrev pub bare_of : List ℕ → Option Call
bare_of w =
    where_word w (codes "silence") (Some Silence) (where_word w (codes "begin") (Some Begin) (where_word w (codes "report") (Some Report)
    (where_word w (codes "abandon") (Some Abandon) (where_word w (codes "record") (Some Record) None))))

-- the call that a word with a number spells
abbrev pub counted_of : List ℕ → ℕ → Option Call
counted_of w n =
    where_word w (codes "table") (Some (Table n)) (where_word w (codes "text") (Some (Text n)) (where_word w (codes "advance") (Some (Advance n))
    (where_word w (codes "name") (Some (Name n)) None)))

-- the call c of a word alone, if it is one, or that of the word w with a number
abbrev pub shaped_in : Option Call → List ℕ → List (List ℕ) → Option Call
shaped_in (Some c) w ws = at_end c ws
shaped_in None w ws = option_and_then (counted_of w) (count_in ws)

-- the call that the word w and those after it spell; none for `sheet`
abbrev pub plain_in : List ℕ → List (List ℕ) → Option Call
plain_in w ws = where_word w (codes "look") (look_words_in ws) (where_word w (codes "reading") (option_map Reading (reading_in ws)) (shaped_in (bare_of w) w ws))
