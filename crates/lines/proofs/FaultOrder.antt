-- The faults in the order in which they are told, and what trying them in it tells. Assumes nothing.
use Rattle.std.proofs.Common.{◌≡◌, ℕ, zero, suc, ◌+◌, ◌*◌, ◌<◌, ◌≤◌, Bool, true, false, cond, ◌⊎◌, List, [], ◌∷◌, length, get_or, Ok, Err, Result, sym, refl, ap, ◌∙◌, subst, inl, inr, ⊎_elim, arith}
use Rattle.lines.specs.declared.items.Fault.{Fault}
use Rattle.lines.specs.declared.items.Fault.TheVariants.{Long, Key, Many, Form, Number, Name, Operand, Size}
use Rattle.sheet.specs.declared.item.Item.{Item}
use Rattle.sheet.specs.PartialSheet.{PartialSheet}
use Rattle.lines.specs.WordMeanings.{Form as Shape, unasked, none, variable, num, expression, statement, run, Line, nothing, word_meanings, nth, word_at, meaning_at}
use Rattle.lines.specs.Faults.{number_of_fault, word_of_fault, Before, misnumbered, misnamed, misplaced, applies_to}
use Rattle.lines.proofs.FaultTries.{tried}

-- ---- lists of faults

-- where a fault stands among those that tell at most word 4
abbrev rank : Fault → ℕ
rank f = 5 * number_of_fault f + word_of_fault f

-- g is one of the faults
abbrev In : Fault → List Fault → Type 0
In g [] = ⊥
In g (f ∷ fs) = (g ≡ f) ⊎ In g fs

-- ranks that rise from above r on
abbrev Rising : ℕ → List Fault → Type 0
Rising r [] = Unit {0}
Rising r (f ∷ fs) = (r < rank f) × Rising (rank f) fs

-- none of them has a rank up to r
rising_in : (r : ℕ) (fs : List Fault) (g : Fault) → Rising r fs → In g fs → r < rank g
rising_in r [] g h i = absurd i
rising_in r (f ∷ fs) g h (inl e) = rw e h.0
rising_in r (f ∷ fs) g h (inr i) = omega (arith, rising_in (rank f) fs g h.1 i)

module _ {A : Type 0} (t : Fault → Bool) (v : A) where
  -- the fault that is told passes the test, and none of a lower rank does
  tried_err : (r : ℕ) (fs : List Fault) (f : Fault) → Rising r fs → tried t fs v ≡ Err f → (t f ≡ true) × ((g : Fault) → In g fs → rank g < rank f → t g ≡ false)
  tried_err r [] f h e = absurd (let z : ◌≡◌ {A = ℕ} 0 1 = cc in omega arith)
  tried_err r (x ∷ xs) f h e = go (t x) refl e (tried_err (rank x) xs f h.1)
    where
      go : (b : Bool) → t x ≡ b → cond b (Err x) (tried t xs v) ≡ Err f
          → (tried t xs v ≡ Err f → (t f ≡ true) × ((g : Fault) → In g xs → rank g < rank f → t g ≡ false))
          → (t f ≡ true) × ((g : Fault) → In g (x ∷ xs) → rank g < rank f → t g ≡ false)
      go true p e rest =
          let same : x ≡ f = cc in (
            subst (λ (y : Fault). t y ≡ true) same p,
            λ g i less. absurd (⊎_elim (λ (q : g ≡ x). omega (arith, ap rank q, ap rank same)) (λ j. omega (arith, rising_in (rank x) xs g h.1 j, ap rank same)) i),
          )
      go false p e rest = ((rest e).0, λ g i less. ⊎_elim (λ (q : g ≡ x). ap t q ∙ p) (λ j. (rest e).1 g j less) i)

  -- where none is told, none passes
  tried_ok : (fs : List Fault) (x : A) → tried t fs v ≡ Ok x → (g : Fault) → In g fs → t g ≡ false
  tried_ok [] x e g i = absurd i
  tried_ok (f ∷ fs) x e g i = go (t f) refl e (tried_ok fs x)
    where
      go : (b : Bool) → t f ≡ b → cond b (Err f) (tried t fs v) ≡ Ok x → (tried t fs v ≡ Ok x → (g : Fault) → In g fs → t g ≡ false) → t g ≡ false
      go true p e rest = absurd (let z : ◌≡◌ {A = ℕ} 0 1 = cc in omega arith)
      go false p e rest = ⊎_elim (λ (q : g ≡ f). ap t q ∙ p) (λ j. rest e g j) i

-- ---- the faults of a line

-- those behind its key
abbrev pub behind : List Fault
behind =
    Form ∷ Number 1 ∷ Number 2 ∷ Number 3 ∷ Number 4 ∷ Name 1 ∷ Name 2 ∷ Name 3 ∷ Name 4
    ∷ Operand 1 ∷ Operand 2 ∷ Operand 3 ∷ Operand 4 ∷ Size ∷ []

-- all of them
abbrev pub every : List Fault
every = Long ∷ Key ∷ Many ∷ behind

rising : Rising 0 every
rising = omega arith

-- a word past the fourth stands for nothing
past : (x : Shape) (w : ℕ) → nth nothing (word_meanings x) (suc (suc (suc (suc (suc w))))) ≡ nothing
past unasked w = refl
past none w = refl
past variable w = refl
past num w = refl
past (expression e) w = refl
past (statement s) w = refl
past run w = refl

-- what is read from a list is in it
in_at : (fs : List Fault) (k : ℕ) (d : Fault) → k < length fs → In (get_or fs k d) fs
in_at [] k d h = absurd (omega arith)
in_at (f ∷ fs) zero d h = inl refl
in_at (f ∷ fs) (suc k) d h = inr (in_at fs k d (omega arith))

-- the fault at place k, counted from 0
at : (k : ℕ) → k < length every → In (get_or every k Size) every
at k h = in_at every k Size h

-- a fault is among them, or fits no line
abbrev Known : Fault → Type 0
Known g = ((word_of_fault g ≤ 4) × In g every) ⊎ ((d : PartialSheet) (x : Line) → applies_to d x g ≡ false)

-- a fault that tells a word: one of the first four, or one that stands for nothing
known_word : (K : ℕ → Fault) → ((w : ℕ) → word_of_fault (K w) ≡ w) → In (K 1) every → In (K 2) every → In (K 3) every → In (K 4) every
    → ((d : PartialSheet) (x : Line) (w : ℕ) → meaning_at x w ≡ nothing → applies_to d x (K w) ≡ false) → (w : ℕ) → Known (K w)
known_word K p a b c e never zero = inr (λ d x. never d x 0 refl)
known_word K p a b c e never (suc zero) = inl (omega (arith, p 1), a)
known_word K p a b c e never (suc (suc zero)) = inl (omega (arith, p 2), b)
known_word K p a b c e never (suc (suc (suc zero))) = inl (omega (arith, p 3), c)
known_word K p a b c e never (suc (suc (suc (suc zero)))) = inl (omega (arith, p 4), e)
known_word K p a b c e never (suc (suc (suc (suc (suc w))))) = inr (λ d x. never d x _ (past x.form w))

known : (g : Fault) → Known g
known Long = inl (omega arith, at 0 (omega arith))
known Key = inl (omega arith, at 1 (omega arith))
known Many = inl (omega arith, at 2 (omega arith))
known Form = inl (omega arith, at 3 (omega arith))
known (Number w) =
    known_word Number (λ _. refl) (at 4 (omega arith)) (at 5 (omega arith)) (at 6 (omega arith)) (at 7 (omega arith))
    (λ d x v e. ap (misnumbered (word_at x 2) (word_at x v)) e) w
known (Name w) =
    known_word Name (λ _. refl) (at 8 (omega arith)) (at 9 (omega arith)) (at 10 (omega arith)) (at 11 (omega arith))
    (λ d x v e. ap (misnamed d (word_at x v)) e) w
known (Operand w) =
    known_word Operand (λ _. refl) (at 12 (omega arith)) (at 13 (omega arith)) (at 14 (omega arith)) (at 15 (omega arith))
    (λ d x v e. ap (misplaced d (word_at x v)) e) w
known Size = inl (omega arith, at 16 (omega arith))

-- where r is the outcome of trying them all, the fault told is the first that fits
pub first_told : (d : PartialSheet) (x : Line) (v : Item) (r : Result Item Fault) → r ≡ tried (applies_to d x) every v
    → ((f : Fault) → r ≡ Err f → (applies_to d x f ≡ true) × ((g : Fault) → Before g f → applies_to d x g ≡ false))
    × ((y : Item) → r ≡ Ok y → (g : Fault) → applies_to d x g ≡ false)
first_told d x v r e = (
  λ f q.
      let p = tried_err (applies_to d x) v 0 every f rising (sym e ∙ q) in
      (p.0, λ g b. ⊎_elim (λ m. p.1 g m.1 (omega arith)) (λ never. never d x) (known g)),
  λ y q g. ⊎_elim (λ m. tried_ok (applies_to d x) v every y (sym e ∙ q) g m.1) (λ never. never d x) (known g),
)
