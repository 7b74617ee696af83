-- A work that is like one with which a rest began lies in that rest, one to one.
use Rattle.std.proofs.Common.{◌≡◌, ℕ, Bool, true, false, cond, ◌||◌, eqb, List, [], ◌∷◌, Some, None, Option, ⊎_elim, sym, refl, ap, ◌∙◌, subst, arith}
use Rattle.std.proofs.lemmas.Bool.{true≢false, cond-true, eqb-true, eq-eqb, or_cases, or_left, or_right}
use Rattle.meaning.specs.declared.duties.Duty.{Duty}
use Rattle.meaning.specs.declared.duties.Opening.{Opening}
use Rattle.meaning.specs.declared.duties.Span.{Span}
use Rattle.meaning.specs.Intervals.{Setting}
use Rattle.meaning.specs.Work.{Work}
use Rattle.meaning.specs.WellFormed.{◌∈◌, here, there, EndIs, Present, Nested}
use Rattle.meaning.proofs.Lists.{none_some}
use Rattle.meaning.specs.AnyOrder.{duty_renamed, opened_renamed, span_renamed}
use Rattle.meaning.proofs.PartOf.{PartOfWork, AsksAlike, KnowsAsMuch, OneToOne, PartOf}
use Rattle.meaning.proofs.PartOf.{Like}
use Rattle.meaning.proofs.Starts.{Start, SettledFrom}

-- whether a span with the serial s is in the list
pub alive : List Span → ℕ → Bool
alive [] s = false
alive (t ∷ l) s = eqb t.serial s || alive l s

alive_says : (l : List Span) (s : ℕ) → alive l s ≡ true → Present l s
unfolding alive
alive_says [] s e = absurd (true≢false (sym e))
alive_says (t ∷ l) s e =
    ⊎_elim (λ (p : eqb t.serial s ≡ true). record { span = t; inside = here refl; named = eqb-true t.serial s p })
    (λ (p : alive l s ≡ true). let h : Present l s = alive_says l s p in record { span = h.span; inside = there h.inside; named = h.named }) (or_cases (eqb t.serial s) (alive l s) e)

in_alive : (l : List Span) (s : ℕ) (t : Span) → t ∈ l → t.serial ≡ s → alive l s ≡ true
unfolding alive
in_alive [] s t q e = elim q [ ]
in_alive (x ∷ l) s t (here p) e = or_left (eqb x.serial s) (alive l s) (eq-eqb x.serial s (ap (λ (z : Span). z.serial) (sym p) ∙ e))
in_alive (x ∷ l) s t (there q) e = or_right (eqb x.serial s) (alive l s) (in_alive l s t q e)

-- the serials of the list as φ says, and any other to n
abbrev pub send : List Span → ℕ → (ℕ → ℕ) → ℕ → ℕ
send l n φ s = cond (alive l s) (φ s) n

pub send_held : (l : List Span) (n : ℕ) (φ : ℕ → ℕ) (s : ℕ) → Present l s → send l n φ s ≡ φ s
send_held l n φ s h = cond-true (alive l s) (φ s) n (in_alive l s h.span h.inside h.named)

-- a serial that is sent to one that is held is held
sent_back : (l m : List Span) (n : ℕ) (φ : ℕ → ℕ) (s : ℕ) → (Present m n → ⊥) → Present m (send l n φ s) → Present l s
sent_back l m n φ s not_in h = by (alive l s) refl h
  where
    by : (b : Bool) → alive l s ≡ b → Present m (cond b (φ s) n) → Present l s
    by true e i = alive_says l s e
    by false e i = absurd (not_in i)

duty_as : (φ ψ : ℕ → ℕ) (d : Duty) → ψ d.span ≡ φ d.span → duty_renamed φ d ≡ duty_renamed ψ d
duty_as φ ψ d e = λ i. record { statement = d.statement; number = d.number; span = sym e i }

opened_as : (φ ψ : ℕ → ℕ) (l : List Span) (s : ℕ) (q : Option Opening) → Nested l s q → ((s : ℕ) → Present l s → ψ s ≡ φ s) → opened_renamed φ q ≡ opened_renamed ψ q
opened_as φ ψ l s None n h = refl
opened_as φ ψ l s (Some g) n h =
    let f : duty_renamed φ g.follower ≡ duty_renamed ψ g.follower = duty_as φ ψ g.follower (h g.follower.span n.1) in
    λ i. Some (record { by = g.by; body = g.body; starts = g.starts; follower = f i })

span_as : (φ ψ : ℕ → ℕ) (l : List Span) (t : Span) → t ∈ l → Nested l t.serial t.opening → ((s : ℕ) → Present l s → ψ s ≡ φ s) → span_renamed φ t ≡ span_renamed ψ t
span_as φ ψ l t q n h =
    let a : φ t.serial ≡ ψ t.serial = sym (h t.serial (record { span = t; inside = q; named = refl })) in
    let b : opened_renamed φ t.opening ≡ opened_renamed ψ t.opening = opened_as φ ψ l t.serial t.opening n h in
    λ i. record { serial = a i; opening = b i; fresh = t.fresh }

module _ (S T : Setting) (k : ℕ) (φ ψ : ℕ → ℕ) (w v u : Work) (A : AsksAlike S T k) (K : KnowsAsMuch S T u) (W : Start S w) (D : SettledFrom T k v u) (H : Like φ ψ w v) where
  abbrev χ : ℕ → ℕ
  χ = send w.spans u.next φ

  past : Present u.spans u.next → ⊥
  past h = omega (arith, D.neat.few_serials h.span h.inside, h.named)

  held : (s : ℕ) → Present w.spans s → χ s ≡ φ s
  held s h = send_held w.spans u.next φ s h

  sent_part : PartOfWork χ w u
  sent_part = record {
    known = λ x z e. absurd (none_some z (sym (W.unknown x) ∙ e));
    ends = λ s. subst (λ c. EndIs (u.ends (χ s)) c) (sym (W.free s)) tt;
    spans = λ t q. subst (λ z. z ∈ u.spans) (span_as φ χ w.spans t q (W.well_formed.nested t q) held) (D.resting.grown.more_spans (span_renamed φ t) (H.spans t q));
    duties = λ d q. subst (λ z. z ∈ u.duties) (duty_as φ χ d (held d.span (W.well_formed.duty_present d q))) (D.resting.grown.more_duties (duty_renamed φ d) (H.duties d q));
    later = λ d q. absurd (nothing_in (subst (λ z. d ∈ z) W.nothing q));
  }
    where
      nothing_in : {d : Duty} → d ∈ [] → ⊥
      nothing_in q = elim q [ ]

  sent_one : OneToOne w.next χ w u
  sent_one = record {
    apart = λ i j a b h e.
        let p : Present w.spans i = sent_back w.spans u.spans u.next φ i past h in
        let q : Present w.spans j = sent_back w.spans u.spans u.next φ j past (subst (λ z. Present u.spans z) e h) in
        sym (H.back i p) ∙ ap ψ (sym (held i p) ∙ e ∙ held j q) ∙ H.back j q;
    back = λ i a h. sent_back w.spans u.spans u.next φ i past h;
  }

  pub part_of_rest : PartOf S T k χ w u
  part_of_rest = record {
    alike = A;
    knows = K;
    rest = D.at_rest;
    neat = D.neat;
    roomy = D.roomy;
    well_formed = W.well_formed;
    part = sent_part;
    no_doubles = record { neat = W.neat; duties = W.duties; one_to_one = sent_one };
  }
