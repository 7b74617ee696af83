-- The laws of settling.
use Rattle.std.proofs.Common.{◌≡◌, ℕ, suc, ◌-◌, ◌<◌, ◌≤◌, true, List, [], length, get_or, take, ℤ, pos, Some, None, Option, sym, refl, ap, ◌∙◌, subst, ⊎_elim, arith, length-take, get_or-take, ext_get_or}
use native.Mathlib.Decide.{ℕ_discrete}
use Rattle.std.proofs.lemmas.Bool.{cases_lt}
use Rattle.std.proofs.lemmas.List.{get_or_past}
use Rattle.sheet.specs.declared.elements.Variable.{Variable}
use Rattle.sheet.specs.Content.{no_variable}
use Rattle.sheet.specs.Limits.{Limits}
use Rattle.value.specs.declared.end.End.{End}
use Rattle.value.specs.declared.end.End.TheVariants.{Unknown, On, Last}
use Rattle.value.specs.Values.{in_range}
use Rattle.value.proofs.Numbers.{MatchesNumber}
use Rattle.meaning.specs.declared.duties.LeftOpen.{LeftOpen}
use Rattle.meaning.specs.declared.duties.Stop.{Stop}
use Rattle.meaning.specs.declared.duties.Stop.TheVariants.{Contradiction, Undetermined, Crowded}
use Rattle.meaning.specs.Intervals.{Setting, width, statement_at, value_fits, value_in, States}
use Rattle.meaning.specs.Holds.{Satisfies}
use Rattle.meaning.specs.Work.{Work, Outcome, stops, goes}
use Rattle.meaning.specs.Passes.{Settles}
use Rattle.meaning.specs.Visiting.{SettlesInAnyOrder, in_passes, in_any_order}
use Rattle.meaning.specs.Runs.{left_open, Step, stopped, recorded, finished, closed_by, judged_by, step_of, Steps, MetStopBy, stop}
use Rattle.meaning.specs.Laws.{SettlingEnds, FinishedIsTheOne, OpenBeginsAll, ContradictionLeavesNone}
use Rattle.meaning.specs.WellFormed.{FitSays}
use Rattle.meaning.proofs.Owing.{Owed, owed, holds}
use Rattle.meaning.proofs.KnownNumbers.{IsGiven}
use Rattle.meaning.proofs.StaysWellFormed.{settles_total}
use Rattle.meaning.proofs.RunsInSomeOrder.{Rows, RunBegins, at_first, one_on}
use Rattle.meaning.proofs.RecordPrefix.{Fore, Fits, fore, contradiction_refutes, ends_same}
use Rattle.meaning.proofs.FinishedSatisfies.{row_rests, ends_hold}
use Rattle.meaning.proofs.OneOutcome.{steps_one}
use Rattle.meaning.proofs.Records.{Started, CompleteRun, started, completed}
use Rattle.meaning.proofs.AnyRuns.{start_of, open_any, finished_any, stopped_any}

-- every recorded number is in its range
fits_of : (S : Setting) (x : ℕ) (q : Option ℤ) (r : ℤ) → FitSays S x q → MatchesNumber q r → IsGiven q → value_fits S x r ≡ true
fits_of S x None r f h g = absurd g
fits_of S x (Some v) r f h g = subst (λ (z : ℤ). value_fits S x z ≡ true) h f

module _ (S : Setting) (L : Limits S.sheet) where
  row_legal : {ρ : ℕ → ℕ → ℤ} {k : ℕ} {w u : Work} → RunBegins S ρ k w → Rows S ρ k w u → (x : ℕ) → x < width S → value_fits S x (ρ k x) ≡ true
  row_legal {ρ} {k} {w} {u} b r x h = fits_of S x (u.known x) (ρ k x) ((row_rests S L b r).well_formed.fitted x) (r.values x h) (r.complete.all_given x h)

  one_more : (ρ : ℕ → ℕ → ℤ) (k : ℕ) → ((i : ℕ) → i < k → (x : ℕ) → x < width S → value_fits S x (ρ i x) ≡ true) → ((x : ℕ) → x < width S → value_fits S x (ρ k x) ≡ true) → (i : ℕ) → i < suc k → (x : ℕ) → x < width S → value_fits S x (ρ i x) ≡ true
  one_more ρ k a b i h x l = by (ℕ_discrete i k)
    where
      by : Dec (i ≡ k) → value_fits S x (ρ i x) ≡ true
      by (yes e) = subst (λ j. value_fits S x (ρ j x) ≡ true) (sym e) (b x l)
      by (no q) = a i (omega arith) x l

  begins_legal : {ρ : ℕ → ℕ → ℤ} {k : ℕ} {w : Work} → RunBegins S ρ k w → (i : ℕ) → i < k → (x : ℕ) → x < width S → value_fits S x (ρ i x) ≡ true
  begins_legal at_first i h x l = absurd (omega arith)
  begins_legal {ρ} (one_on {k = k} b r o) i h x l = one_more ρ k (begins_legal b) (row_legal b r) i h x l

  -- a state past the variables is 0, which fits what stands for a variable that is not there
  past_fits : (l : List (List ℤ)) (i x : ℕ) → length (get_or l i []) ≡ width S → width S ≤ x → value_fits S x (value_in l i x) ≡ true
  past_fits l i x e h =
      ap (λ (z : ℤ). value_fits S x z) (get_or_past (get_or l i []) x (pos 0) (omega (arith, e))) ∙ ap (λ (v : Variable). in_range v (pos 0)) (get_or_past S.sheet.variables x no_variable h)

  as_fits : (l : List (List ℤ)) → Satisfies S l → Fits S (value_in l) (length l - 1)
  as_fits l h = record { legal = legal; holds = owed h.holds }
    where
      legal : (i : ℕ) → i ≤ length l - 1 → (x : ℕ) → value_fits S x (value_in l i x) ≡ true
      legal i q x =
          let n : i < length l = omega (arith, h.interval.some_state) in
          ⊎_elim (λ (a : x < width S). h.interval.each.ranged i n x a) (λ (a : width S ≤ x). past_fits l i x (h.interval.each.wide i n) a) (cases_lt x (width S))

  -- two states of one width are equal when their values are
  same_states : (a b : List ℤ) → length a ≡ length b → ((x : ℕ) → x < length a → get_or a x (pos 0) ≡ get_or b x (pos 0)) → a ≡ b
  same_states a b h f = ext_get_or (pos 0) a b h f

  done_states : (r : List (List ℤ)) → CompleteRun S r → States S r
  done_states r D = record {
    wide = D.wide;
    ranged = λ i h. one_more (value_in r) D.count (begins_legal D.ends.begun) (row_legal D.ends.begun D.ends.row) i (omega (arith, D.counted));
  }

  done_satisfies : (r : List (List ℤ)) → CompleteRun S r → Satisfies S r
  done_satisfies r D = record {
    interval = record { some_state = omega (arith, D.counted); each = done_states r D };
    holds = holds (subst (λ j. Owed S (value_in r) 0 j (statement_at S S.sheet.run) None) e (ends_hold S L (value_in r) D.ends));
  }
    where
      e : D.count ≡ length r - 1
      e = omega (arith, D.counted)

  done_only : (r l : List (List ℤ)) → CompleteRun S r → Satisfies S l → l ≡ r
  done_only r l D H =
      ext_get_or [] l r len
      (λ i h. same_states (get_or l i []) (get_or r i []) (H.interval.each.wide i h ∙ sym (D.wide i (omega (arith, len))))
      (λ x q. sym (f.1 i (omega (arith, H.interval.some_state)) x (subst (λ z. x < z) (H.interval.each.wide i h) q))))
    where
      f : (length l - 1 ≡ D.count) × ((i : ℕ) → i ≤ length l - 1 → (x : ℕ) → x < width S → value_in r i x ≡ value_in l i x)
      f = ends_same S L (as_fits l H) D.ends

      len : length l ≡ length r
      len = omega (arith, f.0, H.interval.some_state, D.counted)

  open_fore : (r l : List (List ℤ)) (w : Work) → Started S r w → Satisfies S l → Fore S (value_in r) (value_in l) (length l - 1) (length r) w
  open_fore r l w O H = fore S L (as_fits l H) O.begun

  open_longer : (r l : List (List ℤ)) (w : Work) → Started S r w → Satisfies S l → length r < length l
  open_longer r l w O H = omega (arith, (open_fore r l w O H).within, H.interval.some_state)

  open_begins : (r l : List (List ℤ)) (w : Work) → Started S r w → Satisfies S l → take (length r) l ≡ r
  open_begins r l w O H =
      ext_get_or [] (take (length r) l) r len
      (λ i h. get_or-take (length r) l i [] (omega (arith, len))
      ∙ same_states (get_or l i []) (get_or r i []) (H.interval.each.wide i (omega (arith, len, lt)) ∙ sym (O.wide i (omega (arith, len))))
      (λ x q. sym (B.same i (omega (arith, len)) x (subst (λ z. x < z) (H.interval.each.wide i (omega (arith, len, lt))) q))))
    where
      B : Fore S (value_in r) (value_in l) (length l - 1) (length r) w
      B = open_fore r l w O H

      lt : length r < length l
      lt = open_longer r l w O H

      len : length (take (length r) l) ≡ length r
      len = omega (arith, length-take (length r) l, lt)

-- a step that stops comes from settling that stops so, unless it is undetermined
abbrev stop_in : Step → Stop
stop_in (stopped s) = s
stop_in (recorded x u) = Crowded
stop_in (finished x) = Crowded

abbrev IsContradiction : Stop → Type 0
IsContradiction (Contradiction p) = Unit {0}
IsContradiction (Undetermined x) = ⊥
IsContradiction Crowded = ⊥

closed_no : (c : End) (n p : ℕ) (w : Work) → closed_by c n w ≡ stopped (Contradiction p) → ⊥
closed_no Unknown n p w e = subst IsContradiction (sym (ap stop_in e)) tt
closed_no On n p w e = subst IsContradiction (sym (ap stop_in e)) tt
closed_no Last n p w e = subst IsContradiction (sym (ap stop_in e)) tt

judged_no : (q : Option LeftOpen) (n p : ℕ) (w : Work) → judged_by q n w ≡ stopped (Contradiction p) → ⊥
judged_no None n p w e = closed_no (w.ends 0) n p w e
judged_no (Some x) n p w e = subst IsContradiction (sym (ap stop_in e)) tt

contradiction_of : (n p : ℕ) (o : Outcome) → step_of n o ≡ stopped (Contradiction p) → o ≡ stops (Contradiction p)
contradiction_of n p (stops s) e = ap stops (ap stop_in e)
contradiction_of n p (goes w c) e = absurd (judged_no (left_open n w) n p w e)

pub settling_ends : SettlingEnds
settling_ends S L r w o =
    let q : (x : Outcome) × Settles S (length r) w x = settles_total S L (length r) w (start_of L (open_any L in_passes o)).well_formed in
    let t : Steps S (length r) w (step_of (width S) q.0) = record { outcome = q.0; settles = q.1; comes = refl } in
    (step_of (width S) q.0, t, λ s a. steps_one t a)

pub finished_is_the_one : FinishedIsTheOne
finished_is_the_one S L i r f = let D : CompleteRun S r = completed (finished_any L i f) in (done_satisfies S L r D, λ l h. done_only S L r l D h)

pub open_begins_all : OpenBeginsAll
open_begins_all S L i r w o =
    let B : Started S r w = started (open_any L i o) in
    (record { wide = B.wide; ranged = begins_legal S L B.begun }, λ l h. (open_longer S L r l w B h, open_begins S L r l w B h))

contradicted : (S : Setting) → Limits S.sheet → {r : List (List ℤ)} {s : Stop} → MetStopBy in_any_order S r s → (p : ℕ) → s ≡ Contradiction p → (l : List (List ℤ)) → Satisfies S l → ⊥
contradicted S L (stop {r = r} {w = w} o q) p e l h =
    contradiction_refutes S L (as_fits S L l h) (started o).begun
    (subst (λ x. SettlesInAnyOrder S (length r) w x) (contradiction_of (width S) p q.outcome (q.comes ∙ ap stopped e)) q.settles)

pub contradiction_leaves_none : ContradictionLeavesNone
contradiction_leaves_none S L i r p s l h = contradicted S L (stopped_any L i s) p refl l h
