-- What a load, a begin and an abandon come to, by the condition in which it meets the engine.
use Rattle.std.proofs.Common.{◌≡◌, ℕ, Bool, true, false, if◌then◌else◌, List, [], length, Ok, Err, Result, sym, refl, ap, subst}
use Rattle.std.specs.Result.{IsErr, IsErrAnd}
use Rattle.load.specs.Loading.{LoaderLoads}
use Rattle.calls.specs.declared.answers.NotLoaded.{NotLoaded}
use Rattle.sheet.specs.Content.{Content}
use Rattle.sheet.specs.ContentOf.{content_of}
use Rattle.sheet.specs.declared.kept.Sheet.{Sheet}
use Rattle.meaning.specs.Runs.{first_work}
use Rattle.board.specs.Work.{work_of}
use Rattle.load.specs.declared.refusals.Refusal.{Refusal}
use Rattle.load.specs.Parsing.{parse_sheet}
use Rattle.settling.specs.declared.settler.Settler.{Settler}
use Rattle.calls.specs.declared.answers.Condition.{Condition}
use Rattle.calls.specs.declared.answers.Condition.TheVariants.{Idle, Open, Ended}
use Rattle.calls.specs.declared.answers.Denial.{Denial}
use Rattle.calls.specs.declared.answers.NotLoaded.TheVariants.{RunIsOpen, Refused}
use Rattle.calls.specs.Standing.{Meant, Recording, blank, running}
use Rattle.calls.specs.Published.{PublishedAnswer, published, to_load, to_abandon, published_not_loaded, done}
use Rattle.calls.specs.Calls.{LoadsBy, LoadsIn, BeginsIn, AbandonsIn}
use Rattle.engine.specs.declared.events.Event.TheVariants.{Load, Begin, Abandon}
use Rattle.engine.specs.Events.{admitted, after_event}
use Rattle.engine.specs.Meant.{standing_by}

-- to ask for a load turns no condition
pub load_keeps : (c : Condition) → after_event c Load ≡ c
load_keeps Idle = refl
load_keeps Open = refl
load_keeps (Ended x) = refl

-- a load is denied
pub load_denied : (c : Condition) (s : Settler) (t : List ℕ) (e d : Meant) (a : PublishedAnswer) (r : Result (Unit {0}) Denial) → r ≡ admitted c Load → IsErr r → a ≡ published_not_loaded RunIsOpen → d ≡ e → LoadsIn (standing_by c s) t e a d
load_denied Idle s t e d a r h i j k = cc (subst IsErr h i)
load_denied Open s t e d a r h i j k = (j, k)
load_denied (Ended y) s t e d a r h i j k = cc (subst IsErr h i)

-- a load that is not denied does what comes of its text
pub load_admitted : (c : Condition) (s : Settler) (t : List ℕ) (e d : Meant) (a : PublishedAnswer) (v : Result Content Refusal) → admitted c Load ≡ Ok tt → parse_sheet t ≡ v → LoadsBy v e a d → LoadsIn (standing_by c s) t e a d
load_admitted Idle s t e d a v h p b = subst (λ (r : Result Content Refusal). LoadsBy r e a d) (sym p) b
load_admitted Open s t e d a v h p b = cc
load_admitted (Ended y) s t e d a v h p b = subst (λ (r : Result Content Refusal). LoadsBy r e a d) (sym p) b

-- and changes nothing where the text is refused
pub load_refused : (c : Condition) (s : Settler) (t : List ℕ) (e d : Meant) (l : Result (Unit {0}) Refusal) (f : Result (Unit {0}) NotLoaded) (a b : Content) → admitted c Load ≡ Ok tt
    → LoaderLoads l a b (parse_sheet t) → IsErrAnd l (λ r. f ≡ Err (Refused r)) → (b ≡ a → d ≡ e) → LoadsIn (standing_by c s) t e (published (to_load f)) d
load_refused c s t e d (Ok u) f a b h o i k = absurd i
load_refused c s t e d (Err r) f a b h o i k = load_admitted c s t e d (published (to_load f)) (Err r) h o.0 (ap (λ (z : Result (Unit {0}) NotLoaded). published (to_load z)) i, k o.1)

-- an abandon ends the run that is open
pub abandon_does : (c n : Condition) (s : Settler) (e : Content) (r : Result (Unit {0}) Denial) → r ≡ admitted c Abandon → n ≡ after_event c Abandon
    → AbandonsIn (standing_by c s) (record { sheet = e; standing = standing_by c s }) (published (to_abandon r)) (record { sheet = e; standing = standing_by n s })
abandon_does Idle n s e r h k = (ap (λ (z : Result (Unit {0}) Denial). published (to_abandon z)) h, ap (λ (z : Condition). record { sheet = e; standing = standing_by z s }) k)
abandon_does Open n s e r h k = (ap (λ (z : Result (Unit {0}) Denial). published (to_abandon z)) h, ap (λ (z : Condition). record { sheet = e; standing = standing_by z s }) k)
abandon_does (Ended y) n s e r h k = (ap (λ (z : Result (Unit {0}) Denial). published (to_abandon z)) h, ap (λ (z : Condition). record { sheet = e; standing = standing_by z s }) k)

-- a recorder that is started has no states, this width, and the room of its capacity
pub started : (b : Bool) (v n : ℕ) (capacity : ℕ → ℕ) (q p : Recording) → b ≡ true → v ≡ n → p.states ≡ (if b then [] else q.states) → p.width ≡ (if b then v else q.width) → p.room ≡ (if b then capacity v else q.room) → p ≡ blank n (capacity n)
started true v n capacity q p h e x y z = rw (sym e, x, y, z) refl
started false v n capacity q p h e x y z = cc

-- a begin that is not denied opens a run
pub begin_admitted : (c : Condition) (s d : Settler) (e : Sheet) (capacity : ℕ → ℕ) (q p : Recording) → admitted c Begin ≡ Ok tt → d.state ≡ 0 → work_of d.board ≡ first_work e.run → p ≡ blank (length (content_of e).variables) (capacity (length (content_of e).variables))
    → BeginsIn (standing_by c s) capacity (record { sheet = content_of e; standing = standing_by c s }) q done (record { sheet = content_of e; standing = running d.state (work_of d.board) }) p
begin_admitted Idle s d e capacity q p h k w f = (refl, rw (k, w) refl, f)
begin_admitted Open s d e capacity q p h k w f = cc
begin_admitted (Ended y) s d e capacity q p h k w f = (refl, rw (k, w) refl, f)
