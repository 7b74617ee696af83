-- The lists keep within their limits, and so the fuel of a pass never runs out.
use Rattle.std.proofs.Common.{◌≡◌, ℕ, zero, suc, ◌+◌, ◌<◌, ◌≤◌, false, List, [], ◌∷◌, ◌++◌, length, ℤ, Some, None, Option, refl, ap, ◌∙◌, subst, arith}
use Rattle.std.specs.List.{slice_get}
use Rattle.value.specs.declared.end.End.{End}
use Rattle.value.specs.declared.end.End.TheVariants.{Unknown, On, Last}
use Rattle.meaning.specs.declared.duties.Duty.{Duty}
use Rattle.meaning.specs.declared.duties.Span.{Span}
use Rattle.meaning.specs.Intervals.{Setting}
use Rattle.meaning.specs.Work.{Work, Outcome, stops, goes, also, and_then}
use Rattle.meaning.specs.Effects.{most_duties, most_spans}
use Rattle.meaning.specs.Rules.{visit}
use Rattle.meaning.specs.Passes.{visit_or, visit_duties, visit_duties_else, pass_fuel}
use Rattle.meaning.specs.Visiting.{in_passes}
use Rattle.meaning.specs.Runs.{kept_by, going_on, next_work, recorded, Ongoing, start, onward}
use Rattle.meaning.specs.Laws.{Roomy, FuelSuffices}
use Rattle.meaning.proofs.Lists.{longer, nth_within}
use Rattle.meaning.proofs.SettledStates.{Steady, steady}
use Rattle.meaning.proofs.VisitsKeep.{OfWork, Kept, kept_visit, kept_pass, kept_settles}
use Rattle.meaning.proofs.Changes.{kept_by_changes}

one_more : {A : Type 0} (l : List A) (x : A) (n : ℕ) → length l < n → length (l ++ (x ∷ [])) ≤ n
one_more l x n h = omega (arith, longer l x, h)

pub roomy_kept : (S : Setting) → Kept S Roomy
roomy_kept S = kept_by_changes (record {
  value = λ x v w _ h. record { duties = h.duties; later = h.later; spans = h.spans };
  ending = λ e s w _ h. record { duties = h.duties; later = h.later; spans = h.spans };
  duty = λ d w _ l h. record { duties = one_more w.duties d most_duties l; later = h.later; spans = h.spans };
  carried = λ d w _ l h. record { duties = h.duties; later = one_more w.later d most_duties l; spans = h.spans };
  span = λ g w _ a b h. record { duties = one_more w.duties _ most_duties b; later = h.later; spans = one_more w.spans _ most_spans a };
})

going_few : (f : ℕ → End) (l : List Span) → length (going_on f l) ≤ length l
going_few f [] = omega arith
going_few f (t ∷ l) = by (f t.serial) (going_few f l)
  where
    by : (c : End) → length (going_on f l) ≤ length l → length (kept_by c t (going_on f l)) ≤ suc (length l)
    by Unknown h = omega arith
    by On h = omega arith
    by Last h = omega arith

pub next_roomy : (w : Work) → Roomy w → Roomy (next_work w)
next_roomy w h = record { duties = h.later; later = omega arith; spans = omega (arith, going_few w.ends w.spans, h.spans) }

-- each state of a run starts within the limits
open_roomy : {S : Setting} {r : List (List ℤ)} {w : Work} → Ongoing S r w → Roomy w
open_roomy start = record { duties = omega arith; later = omega arith; spans = omega arith }
open_roomy {S} (onward {r = r} {w = w} {u = u} {x = x} o q) =
    let T : Steady in_passes S (length r) w (recorded x u) = steady in_passes S (length r) w (recorded x u) q (λ h. h) in
    subst Roomy T.after (next_roomy T.work (kept_settles S Roomy (roomy_kept S) (length r) w T.work false T.settled (open_roomy o)))

-- two ways on that agree where the work keeps within its limits
then_same : (o : Outcome) (f g : Work → Outcome) → OfWork Roomy o → ((u : Work) → Roomy u → f u ≡ g u) → and_then o f ≡ and_then o g
then_same (stops s) f g h e = refl
then_same (goes u c) f g h e = ap (also c) (e u h)

module _ (S : Setting) (k extra : ℕ) where
  or_same : (q : Option Duty) (f g : Work → Outcome) (w : Work) → Roomy w → ((d : Duty) → q ≡ Some d → (u : Work) → Roomy u → f u ≡ g u) → visit_or S k q f w ≡ visit_or S k q g w
  or_same None f g w h e = refl
  or_same (Some d) f g w h e = then_same (visit S k d w) f g (kept_visit S Roomy (roomy_kept S) k d w h) (e d refl)

  -- with a visit left for each place up to the limit, and one more
  more_fuel : (f i : ℕ) (w : Work) → i ≤ most_duties → most_duties < f + i → Roomy w → visit_duties S k (f + extra) i w ≡ visit_duties S k f i w
  more_fuel zero i w l m h = absurd (omega arith)
  more_fuel (suc f) i w l m h =
      let p : suc f + extra ≡ suc (f + extra) = omega arith in
      ap (λ (z : ℕ). visit_duties S k z i w) p
      ∙ or_same (slice_get w.duties i) (visit_duties S k (f + extra) (suc i)) (visit_duties S k f (suc i)) w h
      (λ d e u g. more_fuel f (suc i) u (omega (arith, nth_within w.duties i d e, h.duties)) (omega arith) g)

-- with a visit left for each place up to the limit, and one more, the fuel doesn't run out
module _ (S : Setting) (k : ℕ) (o : Outcome) where
  never_out : (f i : ℕ) (w : Work) → i ≤ most_duties → most_duties < f + i → Roomy w → visit_duties_else o S k f i w ≡ visit_duties S k f i w
  never_out zero i w l m h = absurd (omega arith)
  never_out (suc f) i w l m h =
      or_same S k 0 (slice_get w.duties i) (visit_duties_else o S k f (suc i)) (visit_duties S k f (suc i)) w h
      (λ d e u g. never_out f (suc i) u (omega (arith, nth_within w.duties i d e, h.duties)) (omega arith) g)

pub fuel_is : most_duties < pass_fuel + 0
unfolding pass_fuel
fuel_is = omega arith

pub fuel_suffices : FuelSuffices
fuel_suffices = record {
  never = λ S k o w h. never_out S k o pass_fuel 0 w (omega arith) fuel_is h;
  enough = λ S k extra w h. more_fuel S k extra pass_fuel 0 w (omega arith) fuel_is h;
  started = λ S r w o. open_roomy o;
  passed = λ S k w u c h e. subst (λ (z : Outcome). OfWork Roomy z) e (kept_pass S Roomy (roomy_kept S) k w h);
}
