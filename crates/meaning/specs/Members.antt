-- What is in a list: an entry, and a span with some serial. Assumes nothing.
use Rattle.std.specs.Prelude.{◌≡◌, ℕ, List, ◌∷◌}
use Rattle.meaning.specs.declared.duties.Span.{Span}

infix 40 ◌∈◌
-- d is in the list
pub data ◌∈◌ {A : Type 0} (d : A) : List A → Type 0 where
  here : {x : A} {l : List A} → d ≡ x → d ∈ (x ∷ l)
  there : {x : A} {l : List A} → d ∈ l → d ∈ (x ∷ l)

-- a span with the serial s is in the list
pub record Present (l : List Span) (s : ℕ) : Type 0 where
  pub span : Span
  pub inside : span ∈ l
  pub named : span.serial ≡ s
