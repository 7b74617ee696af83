-- A fact of works that each of the five changes keeps, wherever a visit makes it, each visit keeps.
use Rattle.std.proofs.Common.{◌≡◌, ℕ, ◌<◌, Bool, true, false, ◌&&◌, ltb, length, ℤ, Some, None, Option, refl}
use Rattle.std.proofs.lemmas.Bool.{ltb-true, and_parts, cond_both}
use Rattle.value.specs.declared.end.End.{End}
use Rattle.value.specs.declared.end.End.TheVariants.{Unknown, On, Last}
use Rattle.value.specs.Values.{equal_numbers}
use Rattle.meaning.specs.declared.duties.Duty.{Duty}
use Rattle.meaning.specs.declared.duties.Opening.{Opening}
use Rattle.meaning.specs.declared.duties.Stop.TheVariants.{Contradiction}
use Rattle.meaning.specs.Intervals.{Setting, value_fits}
use Rattle.meaning.specs.Work.{Work, stops, unchanged, changed, has_duty, has_opened}
use Rattle.meaning.specs.Effects.{most_duties, most_spans, with_value, with_end, with_duty, with_later, with_span, if_room, give_by, put_by}
use Rattle.meaning.proofs.VisitsKeep.{OfWork, Kept}

-- a fact that the changes keep
pub record Changes (S : Setting) (P : Work → Type 0) : Type 0 where
  pub value : (x : ℕ) (v : ℤ) (w : Work) → w.known x ≡ None → P w → P (with_value x v w)
  pub ending : (e : End) (s : ℕ) (w : Work) → w.ends s ≡ Unknown → P w → P (with_end e s w)
  pub duty : (d : Duty) (w : Work) → has_duty d w.duties ≡ false → length w.duties < most_duties → P w → P (with_duty d w)
  pub carried : (d : Duty) (w : Work) → has_duty d w.later ≡ false → length w.later < most_duties → P w → P (with_later d w)
  pub span : (g : Opening) (w : Work) → has_opened g w.spans ≡ false → length w.spans < most_spans → length w.duties < most_duties → P w → P (with_span g w)

module _ {S : Setting} {P : Work → Type 0} (C : Changes S P) where
  given : (p : ℕ) (q : Option ℤ) (x : ℕ) (v : ℤ) (w : Work) → w.known x ≡ q → P w → OfWork P (give_by S p q x v w)
  given p None x v w n h = cond_both (value_fits S x v) (changed (with_value x v w)) (stops (Contradiction p)) (OfWork P) (λ _. C.value x v w n h) (λ _. tt)
  given p (Some u) x v w n h = cond_both (equal_numbers u v) (unchanged w) (stops (Contradiction p)) (OfWork P) (λ _. h) (λ _. tt)

  placed : (p : ℕ) (c e : End) (s : ℕ) (w : Work) → w.ends s ≡ c → P w → OfWork P (put_by p c e s w)
  placed p Unknown Unknown s w n h = h
  placed p Unknown On s w n h = C.ending On s w n h
  placed p Unknown Last s w n h = C.ending Last s w n h
  placed p On Unknown s w n h = h
  placed p On On s w n h = h
  placed p On Last s w n h = tt
  placed p Last Unknown s w n h = h
  placed p Last On s w n h = tt
  placed p Last Last s w n h = h

  in_room : (b : Bool) (w : Work) → (b ≡ true → P w) → OfWork P (if_room b w)
  in_room true w h = h refl
  in_room false w h = tt

  pub kept_by_changes : Kept S P
  kept_by_changes = record {
    gives = λ p x v w h. given p (w.known x) x v w refl h;
    puts = λ p e s w h. placed p (w.ends s) e s w refl h;
    adds = λ d w h.
        let room : Bool = ltb (length w.duties) most_duties in
        cond_both (has_duty d w.duties) (unchanged w) (if_room room (with_duty d w)) (OfWork P) (λ _. h) (λ n. in_room room (with_duty d w) (λ r. C.duty d w n (ltb-true (length w.duties) most_duties r) h));
    carries = λ d w h.
        let room : Bool = ltb (length w.later) most_duties in
        cond_both (has_duty d w.later) (unchanged w) (if_room room (with_later d w)) (OfWork P) (λ _. h) (λ n. in_room room (with_later d w) (λ r. C.carried d w n (ltb-true (length w.later) most_duties r) h));
    opens = λ g w h.
        let a : Bool = ltb (length w.spans) most_spans in
        let b : Bool = ltb (length w.duties) most_duties in
        cond_both (has_opened g w.spans) (unchanged w) (if_room (a && b) (with_span g w)) (OfWork P) (λ _. h)
        (λ n. in_room (a && b) (with_span g w) (λ r. C.span g w n (ltb-true (length w.spans) most_spans (and_parts a b r).0) (ltb-true (length w.duties) most_duties (and_parts a b r).1) h));
  }
