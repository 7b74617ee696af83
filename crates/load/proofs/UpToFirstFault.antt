-- One step after another, up to the first fault. Assumes nothing.
use Rattle.std.proofs.Common.{◌≡◌, ℕ, Bool, true, false, cond, is_some, Some, None, Ok, Err, Option, Result, refl, ap, arith}
use Rattle.std.specs.Option.{ok_or}
use Rattle.lines.specs.Lines.{then}

-- an answer is no fault
pub clash : {A E : Type 0} {x : A} {e : E} → ◌≡◌ {A = Result A E} (Err e) (Ok x) → ⊥
clash q = let z : ◌≡◌ {A = ℕ} 0 1 = cc in omega arith

pub clash_none : {A : Type 0} {x : A} → ◌≡◌ {A = Option A} None (Some x) → ⊥
clash_none q = let z : ◌≡◌ {A = ℕ} 0 1 = cc in omega arith

pub same_ok : {A E : Type 0} {x y : A} → ◌≡◌ {A = Result A E} (Ok x) (Ok y) → x ≡ y
same_ok q = cc

pub same_some : {A : Type 0} {x y : A} → ◌≡◌ {A = Option A} (Some x) (Some y) → x ≡ y
same_some q = cc

-- what stood before an answer
pub then_ok : {A B E : Type 0} (r : Result A E) (f : A → Result B E) (y : B) → then r f ≡ Ok y → (x : A) × (r ≡ Ok x) × (f x ≡ Ok y)
then_ok (Ok x) f y q = (x, refl, q)
then_ok (Err e) f y q = absurd (clash q)

pub or_ok : {A E : Type 0} (o : Option A) (e : E) (x : A) → ok_or o e ≡ Ok x → o ≡ Some x
or_ok None e x q = absurd (clash q)
or_ok (Some y) e x q = cc

pub if_ok : {A E : Type 0} (b : Bool) (r : Result A E) (e : E) (x : A) → cond b r (Err e) ≡ Ok x → (b ≡ true) × (r ≡ Ok x)
if_ok true r e x q = (refl, q)
if_ok false r e x q = absurd (clash q)

pub unless_ok : {A E : Type 0} (b : Bool) (r : Result A E) (e : E) (x : A) → cond b (Err e) r ≡ Ok x → (b ≡ false) × (r ≡ Ok x)
unless_ok true r e x q = absurd (clash q)
unless_ok false r e x q = (refl, q)

pub if_some : {A : Type 0} (b : Bool) (x y : A) → cond b (Some x) None ≡ Some y → (b ≡ true) × (x ≡ y)
if_some true x y q = (refl, same_some q)
if_some false x y q = absurd (clash_none q)

pub unless_some : {A : Type 0} (b : Bool) (o : Option A) (x : A) → cond b None o ≡ Some x → (b ≡ false) × (o ≡ Some x)
unless_some true o x q = absurd (clash_none q)
unless_some false o x q = (refl, q)

-- what follows an answer
pub then_is : {A B E : Type 0} (r : Result A E) (x : A) (f : A → Result B E) → r ≡ Ok x → then r f ≡ f x
then_is r x f e = ap (λ s. then s f) e

-- what follows what was made of an answer
pub then_made : {A B C E : Type 0} (r : Result A E) (x : A) (f : A → B) (g : B → Result C E) → r ≡ Ok x → then (then r (λ y. Ok (f y))) g ≡ g (f x)
then_made r x f g e = ap (λ s. then (then s (λ y. Ok (f y))) g) e

-- an option that holds nothing, and one that holds something
pub none_is : {A : Type 0} (o : Option A) → is_some o ≡ false → o ≡ None
none_is None e = refl
none_is (Some n) e = absurd (let z : ◌≡◌ {A = ℕ} 0 1 = cc in omega arith)

pub some_is : {A : Type 0} (o : Option A) → is_some o ≡ true → (x : A) × (o ≡ Some x)
some_is None e = absurd (let z : ◌≡◌ {A = ℕ} 0 1 = cc in omega arith)
some_is (Some x) e = (x, refl)
