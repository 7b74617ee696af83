-- Each visit leads to a later work of the same state: what is known stays, and what is in a list keeps its place.
use Rattle.std.proofs.Common.{◌≡◌, ℕ, zero, suc, ◌<◌, eqb, List, [], ◌∷◌, ◌++◌, get_or, ℤ, pos, Some, None, Option, sym, refl, ap, ◌∙◌, subst, arith}
use Rattle.std.specs.List.{slice_get}
use Rattle.std.proofs.lemmas.Bool.{eqb-true, cond_both}
use Rattle.sheet.specs.declared.elements.Expression.{Expression}
use Rattle.value.specs.declared.end.End.{End}
use Rattle.value.specs.declared.end.End.TheVariants.{Unknown, On, Last}
use Rattle.value.specs.Values.{known_at, last_bit, map_known, map_both_known, apply, negation, known}
use Rattle.value.proofs.EntryByEntry.{Alike, none as alike-none, alike_at, tables_alike}
use Rattle.sheet.specs.declared.elements.Expression.TheVariants.{Num, Val, Pair, Not, Last as LastOf}
use Rattle.meaning.specs.declared.duties.Duty.{Duty}
use Rattle.meaning.specs.declared.duties.Opening.{Opening}
use Rattle.meaning.specs.declared.duties.Span.{Span}
use Rattle.meaning.specs.Intervals.{Setting}
use Rattle.meaning.specs.Work.{Work}
use Rattle.meaning.specs.Effects.{with_value, with_end, with_span}
use Rattle.meaning.specs.WellFormed.{◌∈◌, IsEnded, Extends}
use Rattle.meaning.proofs.Lists.{∈_left, set_other, none_some, nth_in, in_nth}
use Rattle.meaning.proofs.Tests.{unknown_on, unknown_last}
use Rattle.meaning.proofs.Rest.{Shows}
use Rattle.meaning.proofs.VisitsKeep.{Kept}
use Rattle.meaning.proofs.Changes.{kept_by_changes}

pub later_refl : (w : Work) → Extends w w
later_refl w = record { knowns = λ x v e. e; ends = λ s l h. refl; duties = λ i d e. e; carried = λ d q. q; spans = λ i t e. e; serials = omega arith }

pub later_trans : {w u v : Work} → Extends w u → Extends u v → Extends w v
later_trans {w} {u} {v} a b = record {
  knowns = λ x z e. b.knowns x z (a.knowns x z e);
  ends = λ s l i. b.ends s (omega (arith, a.serials)) (subst IsEnded (sym (a.ends s l i)) i) ∙ a.ends s l i;
  duties = λ i d e. b.duties i d (a.duties i d e);
  carried = λ d q. b.carried d (a.carried d q);
  spans = λ i t e. b.spans i t (a.spans i t e);
  serials = omega (arith, a.serials, b.serials);
}

-- what stands at a place of a list stands there in a longer one
nth_left : {A : Type 0} (l : List A) (x : A) (i : ℕ) (d : A) → slice_get l i ≡ Some d → slice_get (l ++ (x ∷ [])) i ≡ Some d
nth_left [] x i d e = absurd (none_some d e)
nth_left (y ∷ l) x zero d e = e
nth_left (y ∷ l) x (suc i) d e = nth_left l x i d e

-- a duty, or a span, of the list is in the later one
pub later_duty : {w u : Work} {d : Duty} → Extends w u → d ∈ w.duties → d ∈ u.duties
later_duty {w} {u} {d} h q = let r = in_nth q in nth_in u.duties r.0 d (h.duties r.0 d r.1)

pub later_span : {w u : Work} {t : Span} → Extends w u → t ∈ w.spans → t ∈ u.spans
later_span {w} {u} {t} h q = let r = in_nth q in nth_in u.spans r.0 t (h.spans r.0 t r.1)

ended_not : (c : End) → IsEnded c → c ≡ Unknown → ⊥
ended_not Unknown i e = i
ended_not On i e = unknown_on (sym e)
ended_not Last i e = unknown_last (sym e)

module _ (S : Setting) (w : Work) where
  later_value : (x : ℕ) (v : ℤ) (u : Work) → u.known x ≡ None → Extends w u → Extends w (with_value x v u)
  later_value x v u n h = record {
    knowns = λ y z e.
        cond_both (eqb x y) (Some v) (u.known y) (λ o. o ≡ Some z)
        (λ p. absurd (none_some z (sym (ap u.known (sym (eqb-true x y p)) ∙ n) ∙ h.knowns y z e))) (λ p. h.knowns y z e);
    ends = h.ends;
    duties = h.duties;
    carried = h.carried;
    spans = h.spans;
    serials = h.serials;
  }

  later_end : (e : End) (s : ℕ) (u : Work) → u.ends s ≡ Unknown → Extends w u → Extends w (with_end e s u)
  later_end e s u n h = record {
    knowns = h.knowns;
    ends = λ t l i.
        cond_both (eqb s t) e (u.ends t) (λ z. z ≡ w.ends t)
        (λ p. absurd (ended_not (w.ends t) i (sym (h.ends t l i) ∙ ap u.ends (sym (eqb-true s t p)) ∙ n))) (λ p. h.ends t l i);
    duties = h.duties;
    carried = h.carried;
    spans = h.spans;
    serials = h.serials;
  }

  later_new : (g : Opening) (u : Work) → Extends w u → Extends w (with_span g u)
  later_new g u h = record {
    knowns = h.knowns;
    ends = λ t l i. set_other u.ends u.next g.starts t (omega (arith, h.serials)) ∙ h.ends t l i;
    duties = λ i d e. nth_left u.duties _ i d (h.duties i d e);
    carried = h.carried;
    spans = λ i t e. nth_left u.spans _ i t (h.spans i t e);
    serials = omega (arith, h.serials);
  }

  -- each visit keeps what is so of the works before it
  pub later_kept : Kept S (Extends w)
  later_kept = kept_by_changes (record {
    value = λ x v u n h. later_value x v u n h;
    ending = λ e s u n h. later_end e s u n h;
    duty = λ d u _ _ h. record { knowns = h.knowns; ends = h.ends; duties = λ i c e. nth_left u.duties d i c (h.duties i c e); carried = h.carried; spans = h.spans; serials = h.serials };
    carried = λ d u _ _ h. record { knowns = h.knowns; ends = h.ends; duties = h.duties; carried = λ c q. ∈_left d (h.carried c q); spans = h.spans; serials = h.serials };
    span = λ g u _ _ _ h. later_new g u h;
  })

-- what is known of an end is known later too
pub end_stays : {w u : Work} (s : ℕ) (c : End) → Extends w u → s < w.next → w.ends s ≡ c → IsEnded c → u.ends s ≡ c
end_stays {w} {u} s c h l e i = h.ends s l (subst IsEnded (sym e) i) ∙ e

-- more is known of a number where more is known of the variables and of the end
abbrev pub MoreKnown : Option ℤ → Option ℤ → Type 0
MoreKnown o q = (v : ℤ) → o ≡ Some v → q ≡ Some v

more_one : (f : ℤ → ℤ) (o q : Option ℤ) → MoreKnown o q → MoreKnown (map_known f o) (map_known f q)
more_one f None q h v e = absurd (none_some v e)
more_one f (Some a) q h v e = ap (map_known f) (h a refl) ∙ e

more_two : (f : ℤ → ℤ → ℤ) (o q a b : Option ℤ) → MoreKnown o a → MoreKnown q b → MoreKnown (map_both_known f o q) (map_both_known f a b)
more_two f None q a b h k v e = absurd (none_some v e)
more_two f (Some x) q a b h k v e = ap (λ z. map_both_known f z b) (h x refl) ∙ more_one (f x) q b k v e

more_last : (c e : End) → (IsEnded c → e ≡ c) → MoreKnown (last_bit c) (last_bit e)
more_last Unknown e h v p = absurd (none_some v p)
more_last On e h v p = ap last_bit (h tt) ∙ p
more_last Last e h v p = ap last_bit (h tt) ∙ p

module _ (f g : ℕ → Option ℤ) (c e : End) (hv : (x : ℕ) → MoreKnown (f x) (g x)) (he : IsEnded c → e ≡ c) where
  more_step : (x : Expression) (os qs : List (Option ℤ)) → Alike MoreKnown os qs → MoreKnown (known f c os x) (known g e qs x)
  more_step (Num n) os qs h = λ v p. p
  more_step (Val n) os qs h = hv n
  more_step (Pair o a b) os qs h =
      more_two (apply o) (get_or os a (Some (pos 0))) (get_or os b (Some (pos 0))) (get_or qs a (Some (pos 0))) (get_or qs b (Some (pos 0)))
      (alike_at MoreKnown (Some (pos 0)) (Some (pos 0)) (λ v p. p) h a) (alike_at MoreKnown (Some (pos 0)) (Some (pos 0)) (λ v p. p) h b)
  more_step (Not a) os qs h = more_one negation (get_or os a (Some (pos 0))) (get_or qs a (Some (pos 0))) (alike_at MoreKnown (Some (pos 0)) (Some (pos 0)) (λ v p. p) h a)
  more_step LastOf os qs h = more_last c e he

  pub more_known : (es : List Expression) (i : ℕ) → MoreKnown (known_at es f c i) (known_at es g e i)
  more_known es i = alike_at MoreKnown (Some (pos 0)) (Some (pos 0)) (λ v p. p) (tables_alike MoreKnown (known f c) (known g e) es [] [] (λ k h us vs a. more_step (get_or es k LastOf) us vs a) alike-none) i

-- a number that is known for a duty stays
pub shows_later : (S : Setting) (d : Duty) (w u : Work) (e : ℕ) (v : ℤ) → Extends w u → d.span < w.next → Shows S d w e v → Shows S d u e v
shows_later S d w u e v h l s = more_known w.known u.known (w.ends d.span) (u.ends d.span) h.knowns (h.ends d.span l) S.sheet.expressions e v s
