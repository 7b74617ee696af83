-- Trying faults one after another. Assumes nothing.
use Rattle.std.proofs.Common.{◌≡◌, Bool, true, false, cond, not, ◌||◌, List, [], ◌∷◌, ◌++◌, is_some, Some, None, Ok, Err, Option, Result, unwrap_or, refl, ap, ◌∙◌}
use Rattle.std.specs.Option.{ok_or}
use Rattle.lines.specs.declared.items.Fault.{Fault}
use Rattle.lines.specs.Lines.{then}

-- v, or the first of the faults fs that passes the test t
abbrev pub tried : {A : Type 0} → (Fault → Bool) → List Fault → A → Result A Fault
tried t [] v = Ok v
tried t (f ∷ fs) v = cond (t f) (Err f) (tried t fs v)

-- what comes after a fault does not matter
then-cond : {A B : Type 0} (b : Bool) (f : Fault) (r : Result A Fault) (k : A → Result B Fault) → then (cond b (Err f) r) k ≡ cond b (Err f) (then r k)
then-cond true f r k = refl
then-cond false f r k = refl

-- a step that fails with f where b holds, and else gives v
pub step : {A B : Type 0} {r : Result A Fault} {v : A} {s : Result B Fault} (k : A → Result B Fault) (b : Bool) (f : Fault) → r ≡ cond b (Err f) (Ok v) → k v ≡ s → then r k ≡ cond b (Err f) s
step {v} k b f e h = ap (λ x. then x k) e ∙ then-cond b f (Ok v) k ∙ ap (cond b (Err f)) h

-- the same for several steps
pub steps : {A B : Type 0} (t : Fault → Bool) (fs gs : List Fault) (v : A) (u : B) (k : A → Result B Fault) → k v ≡ tried t gs u → then (tried t fs v) k ≡ tried t (fs ++ gs) u
steps t [] gs v u k h = h
steps t (f ∷ fs) gs v u k h = then-cond (t f) f (tried t fs v) k ∙ ap (cond (t f) (Err f)) (steps t fs gs v u k h)

-- two steps that fail with the same fault
pub twice : {A : Type 0} (p q : Bool) (f : Fault) (s : Result A Fault) → cond p (Err f) (cond q (Err f) s) ≡ cond (p || q) (Err f) s
twice true q f s = refl
twice false q f s = refl

-- a value that has to be there
pub some_step : {A : Type 0} (o : Option A) (v : A) (f : Fault) → ok_or o f ≡ cond (not (is_some o)) (Err f) (Ok (unwrap_or o v))
some_step None v f = refl
some_step (Some x) v f = refl

-- a test that has to hold
pub test_step : {A : Type 0} (p : Bool) (v : A) (f : Fault) → cond p (Ok v) (Err f) ≡ cond (not p) (Err f) (Ok v)
test_step true v f = refl
test_step false v f = refl
