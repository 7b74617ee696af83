-- Tables made from left to right. Assumes nothing.
use Rattle.std.proofs.Common.{◌≡◌, ℕ, ◌+◌, ◌<◌, List, [], ◌∷◌, ◌++◌, length, get_or, refl, ◌∙◌, arith}
use Rattle.std.proofs.lemmas.List.{length_push, get_or_append_left}
use Rattle.sheet.specs.declared.elements.Expression.{Expression}
use Rattle.sheet.specs.Sizes.{tabled}

module _ {X : Type 0} (f : List X → Expression → X) where
  -- one expression more is one entry more
  pub tabled-push : (es : List Expression) (e : Expression) (done : List X) → tabled f (es ++ e ∷ []) done ≡ tabled f es done ++ f (tabled f es done) e ∷ []
  tabled-push [] e done = refl
  tabled-push (x ∷ es) e done = tabled-push es e (done ++ f done x ∷ [])

  pub tabled_length : (es : List Expression) (done : List X) → length (tabled f es done) ≡ length done + length es
  tabled_length [] done = omega arith
  tabled_length (x ∷ es) done = omega (arith, tabled_length es (done ++ f done x ∷ []), length_push done (f done x))

  -- what is made stays
  pub tabled_front : (es : List Expression) (done : List X) (k : ℕ) (d : X) → k < length done → get_or (tabled f es done) k d ≡ get_or done k d
  tabled_front [] done k d h = refl
  tabled_front (x ∷ es) done k d h =
      tabled_front es (done ++ f done x ∷ []) k d (omega (arith, length_push done (f done x))) ∙ get_or_append_left done (f done x ∷ []) d k h
