-- Two runs of one sheet under the same readings have equal records at equal counts.
use Rattle.std.proofs.Common.{◌≡◌, List, [], ◌∷◌, ◌++◌, length, ℤ, sym, refl, ap, ◌∙◌, subst, subst₂, arith}
use mathlib.Core.Path.{fun_ext}
use Rattle.meaning.specs.Intervals.{Setting, under}
use Rattle.meaning.specs.Work.{Work}
use Rattle.meaning.specs.Runs.{Step, recorded, Steps, Ongoing, start, onward, Finished, finish, Record, open_record, finished_record}
use Rattle.meaning.specs.Laws.{EqualRunsAgree}
use Rattle.meaning.proofs.Lists.{longer}
use Rattle.meaning.proofs.Tests.{on_last}
use Rattle.meaning.proofs.OneOutcome.{steps_one}
use Rattle.meaning.proofs.SettledStates.{state_in, work_after, whole_end}

-- the next state of two records that are equal so far
same_step : {S : Setting} {q r : List (List ℤ)} {w v : Work} {s t : Step} → q ≡ r → w ≡ v → Steps S (length q) w s → Steps S (length r) v t → s ≡ t
same_step {S} {s = s} e d a b = steps_one b (subst₂ (λ k z. Steps S k z s) (ap length e) d a)

same_more : {q r : List (List ℤ)} {x y : List ℤ} → q ≡ r → x ≡ y → (q ++ (x ∷ [])) ≡ (r ++ (y ∷ []))
same_more {q} {r} {x} {y} e p = ap (λ z. z ++ (x ∷ [])) e ∙ ap (λ z. r ++ (z ∷ [])) p

shorter : (q r : List (List ℤ)) (x y : List ℤ) → length (q ++ (x ∷ [])) ≡ length (r ++ (y ∷ [])) → length q ≡ length r
shorter q r x y h = omega (arith, longer q x, longer r y)

pub open_alike : {S : Setting} {q r : List (List ℤ)} {w v : Work} → Ongoing S q w → Ongoing S r v → length q ≡ length r → (q ≡ r) × (w ≡ v)
open_alike start start h = (refl, refl)
open_alike start (onward {r = r} {x = y} b t) h = absurd (omega (arith, longer r y))
open_alike (onward {r = q} {x = x} a s) start h = absurd (omega (arith, longer q x))
open_alike (onward {r = q} {w = w} {u = u} {x = x} a s) (onward {r = r} {w = v} {u = z} {x = y} b t) h =
    let i : (q ≡ r) × (w ≡ v) = open_alike a b (shorter q r x y h) in
    let e : recorded x u ≡ recorded y z = same_step i.0 i.1 s t in
    (same_more i.0 (ap state_in e), ap (work_after u) e)

finished_alike : {S : Setting} {q r : List (List ℤ)} → Finished S q → Finished S r → length q ≡ length r → q ≡ r
finished_alike (finish {r = q} {w = w} {x = x} a s) (finish {r = r} {w = v} {x = y} b t) h =
    let i : (q ≡ r) × (w ≡ v) = open_alike a b (shorter q r x y h) in
    same_more i.0 (ap state_in (same_step i.0 i.1 s t))

-- a run that goes on and one that has finished differ in their counts
open_or_finished : {S : Setting} {q r : List (List ℤ)} {w : Work} → Ongoing S q w → Finished S r → length q ≡ length r → ⊥
open_or_finished start (finish {r = r} {x = y} b t) h = omega (arith, longer r y)
open_or_finished (onward {r = q} {w = w} {u = u} {x = x} a s) (finish {r = r} {w = v} {x = y} b t) h =
    let i : (q ≡ r) × (w ≡ v) = open_alike a b (shorter q r x y h) in
    on_last (ap whole_end (same_step i.0 i.1 s t))

record_alike : {S : Setting} {q r : List (List ℤ)} → Record S q → Record S r → length q ≡ length r → q ≡ r
record_alike (open_record w a) (open_record v b) h = (open_alike a b h).0
record_alike (open_record w a) (finished_record b) h = absurd (open_or_finished a b h)
record_alike (finished_record a) (open_record v b) h = absurd (open_or_finished b a (sym h))
record_alike (finished_record a) (finished_record b) h = finished_alike a b h

pub equal_runs_agree : EqualRunsAgree
equal_runs_agree c f g e q r a b h =
    let p : f ≡ g = fun_ext (λ x. fun_ext (λ k. e x k)) in
    record_alike a (subst (λ z. Record (under c z) r) (sym p) b) h
