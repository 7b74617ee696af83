-- A run from its first state on, by what begin and advance promise. Assumes nothing.
use Rattle.std.proofs.Common.{◌≡◌, ℕ, Bool, true, false, ◌&&◌, ◌==◌, if◌then◌else◌, leb, eq-eqb, length, ℤ, Ok, Err, Some, None, Option, Result, refl, ap, subst}
use Rattle.std.specs.Result.{IsErr}
use Rattle.sheet.specs.Content.{Content}
use Rattle.meaning.specs.Runs.{first_work}
use Rattle.calls.specs.declared.answers.Denial.{Denial}
use Rattle.calls.specs.declared.answers.Denial.TheVariants.{WrongStates, OtherRecorder}
use Rattle.calls.specs.Standing.{Standing, idle, running, Meant, with_standing, Recording, blank}
use Rattle.calls.specs.Published.{PublishedAnswer, done, published, to_begin}
use Rattle.calls.specs.Calls.{BeginsIn, Begins, Opens, Advances, AdvancesBy}
use Rattle.summary.specs.Shown.{FromTheFirst, FromTheFirstBy}

-- an engine that is idle opens a run
opens : (capacity : ℕ → ℕ) (e d : Meant) (q p : Recording) (a : PublishedAnswer) → e.standing ≡ idle → Begins capacity e q a d p → Opens capacity e a d p
opens capacity e d q p a h b = subst (λ (s : Standing). BeginsIn s capacity e q a d p) h b

-- so it does not deny one
told_done : (r : Result (Unit {0}) Denial) → IsErr r → published (to_begin r) ≡ done → ⊥
told_done (Ok u) i e = cc i
told_done (Err d) i e = cc e

pub begin_not_denied : (capacity : ℕ → ℕ) (e d : Meant) (q p : Recording) (r : Result (Unit {0}) Denial) → e.standing ≡ idle → Begins capacity e q (published (to_begin r)) d p → IsErr r → ⊥
begin_not_denied capacity e d q p r h b i = told_done r i ((opens capacity e d q p (published (to_begin r)) h b).0)

-- a first advance, by whether so many states may be asked for
first_by : (b t : Bool) (c : Content) (f : ℕ → ℕ → Option ℤ) (n : ℕ) (q r : Recording) (a : PublishedAnswer) (d : Meant) → t ≡ true
    → AdvancesBy (if b then (if t then None else Some OtherRecorder) else Some WrongStates) f n (first_work c.run) (record { sheet = c; standing = running 0 (first_work c.run) }) q a d r → FromTheFirstBy b c f n q a d.standing r × (d.sheet ≡ c)
first_by true t c f n q r a d e h = subst (λ (z : Bool). AdvancesBy (if z then None else Some OtherRecorder) f n (first_work c.run) (record { sheet = c; standing = running 0 (first_work c.run) }) q a d r) e h
first_by false t c f n q r a d e h = ((h.0, ap (λ (m : Meant). m.standing) h.1, h.2), ap (λ (m : Meant). m.sheet) h.1)

-- a begin and an advance
pub from_the_first : (capacity : ℕ → ℕ) (f : ℕ → ℕ → Option ℤ) (n : ℕ) (e b d : Meant) (q p r : Recording) (g : Result (Unit {0}) Denial) (a : PublishedAnswer) → e.standing ≡ idle → g ≡ Ok tt → Begins capacity e q (published (to_begin g)) b p
    → Advances f n b p a d r → FromTheFirst e.sheet f n capacity a d.standing r × (d.sheet ≡ e.sheet)
from_the_first capacity f n e b d q p r g a h k i j =
    let c = e.sheet in
    let m = length c.variables in
    let o = opens capacity e b q p (published (to_begin g)) h i in
    first_by (leb 1 n && leb n 1000) (m == m && 0 == 0) c f n (blank m (capacity m)) r a d (ap (λ (z : Bool). z && 0 == 0) (eq-eqb m m refl))
    (subst (λ (x : Recording). Advances f n (with_standing (running 0 (first_work c.run)) e) x a d r) o.2 (subst (λ (x : Meant). Advances f n x p a d r) o.1 j))
