-- Every work of a run is neat: what a visit does keeps it so, and so does the step to the next state.
use Rattle.std.proofs.Common.{◌≡◌, suc, ◌<◌, true, false, List, [], ◌∷◌, ◌++◌, Some, sym, refl, ◌∙◌, subst, arith}
use Rattle.std.proofs.lemmas.Bool.{both_ways}
use Rattle.meaning.specs.declared.duties.Duty.{Duty}
use Rattle.meaning.specs.declared.duties.Opening.{Opening}
use Rattle.meaning.specs.declared.duties.Span.{Span}
use Rattle.meaning.specs.Intervals.{Setting}
use Rattle.meaning.specs.Work.{Work, has_duty, has_opened}
use Rattle.meaning.specs.Effects.{with_value, with_end, with_duty, with_later, with_span}
use Rattle.meaning.specs.WellFormed.{◌∈◌}
use Rattle.meaning.proofs.Lists.{all_snoc}
use Rattle.meaning.proofs.Tests.{stands_has}
use Rattle.meaning.proofs.VisitsKeep.{Kept}
use Rattle.meaning.proofs.Changes.{kept_by_changes}
use Rattle.meaning.proofs.PartOf.{Distinct, Neat}
use Rattle.meaning.proofs.Distinct.{distinct_snoc, not_has}

-- a fact of each two of a list with one more
pub two_snoc : {A : Type 0} (P : A → A → Type 0) (x : A) (l : List A) → ((a b : A) → a ∈ l → b ∈ l → P a b) → ((a : A) → a ∈ l → P a x) → ((a : A) → a ∈ l → P x a) → P x x
    → (a b : A) → a ∈ (l ++ (x ∷ [])) → b ∈ (l ++ (x ∷ [])) → P a b
two_snoc P x l h r s p a b q t =
    all_snoc (λ z. (y : _) → y ∈ (l ++ (x ∷ [])) → P z y) x l
    (λ z m. all_snoc (P z) x l (λ y n. h z y m n) (r z m)) (all_snoc (P x) x l s p) a q b t

pub neat_new : (g : Opening) (w : Work) → has_opened g w.spans ≡ false → Neat w → Neat (with_span g w)
neat_new g w e N =
    let new : Span = record { serial = w.next; opening = Some g; fresh = true } in
    record {
      few_serials = all_snoc (λ r. r.serial < suc w.next) new w.spans (λ r q. omega (arith, N.few_serials r q)) (omega arith);
      one_serial = two_snoc (λ t r. t.serial ≡ r.serial → t ≡ r) new w.spans N.one_serial (λ t q p. absurd (omega (arith, N.few_serials t q, p))) (λ t q p. absurd (omega (arith, N.few_serials t q, p))) (λ p. refl);
      one_opening = λ h.
          two_snoc (λ t r. t.fresh ≡ true → r.fresh ≡ true → t.opening ≡ Some h → r.opening ≡ Some h → t ≡ r) new w.spans (N.one_opening h)
          (λ t q a b o p. absurd (stands t q a (o ∙ sym p))) (λ t q a b o p. absurd (stands t q b (p ∙ sym o))) (λ a b o p. refl);
      spans = distinct_snoc w.spans new N.spans (λ q. below new q refl);
      later = N.later;
    }
  where
    stands : (t : Span) → t ∈ w.spans → t.fresh ≡ true → t.opening ≡ Some g → ⊥
    stands t q a o = both_ways (has_opened g w.spans) e (stands_has {g = g} {l = w.spans} (record { span = t; inside = q; opened = o; newly = a }))

    below : (t : Span) → t ∈ w.spans → t.serial ≡ w.next → ⊥
    below t q p = omega (arith, N.few_serials t q, p)

pub neat_later : (d : Duty) (w : Work) → has_duty d w.later ≡ false → Neat w → Neat (with_later d w)
neat_later d w e N = record { few_serials = N.few_serials; one_serial = N.one_serial; one_opening = N.one_opening; spans = N.spans; later = distinct_snoc w.later d N.later (not_has e) }

pub neat_same : (w u : Work) → Neat w → u.spans ≡ w.spans → u.later ≡ w.later → u.next ≡ w.next → Neat u
neat_same w u N a b c = record {
  few_serials = λ t q. subst (λ z. t.serial < z) (sym c) (N.few_serials t (subst (λ z. t ∈ z) a q));
  one_serial = λ t r q p. N.one_serial t r (subst (λ z. t ∈ z) a q) (subst (λ z. r ∈ z) a p);
  one_opening = λ g t r q p. N.one_opening g t r (subst (λ z. t ∈ z) a q) (subst (λ z. r ∈ z) a p);
  spans = subst (λ (z : List Span). Distinct z) (sym a) N.spans;
  later = subst (λ (z : List Duty). Distinct z) (sym b) N.later;
}

pub neat_kept : (S : Setting) → Kept S Neat
neat_kept S = kept_by_changes (record {
  value = λ x v w _ h. neat_same w (with_value x v w) h refl refl refl;
  ending = λ e s w _ h. neat_same w (with_end e s w) h refl refl refl;
  duty = λ d w _ _ h. neat_same w (with_duty d w) h refl refl refl;
  carried = λ d w n _ h. neat_later d w n h;
  span = λ g w n _ _ h. neat_new g w n h;
})
