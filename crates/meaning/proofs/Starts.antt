-- What a state starts with, and what it settles to, along a run.
use Rattle.std.proofs.Common.{◌≡◌, ℕ, ◌+◌, ◌<◌, true, false, List, [], ◌∷◌, length, Some, None, ◌⊎◌, inl, inr, sym, refl, ap, ◌∙◌, subst, arith}
use Rattle.std.proofs.lemmas.Bool.{both_ways}
use Rattle.sheet.specs.Limits.{Limits}
use Rattle.value.specs.declared.end.End.{End}
use Rattle.value.specs.declared.end.End.TheVariants.{Unknown, On, Last}
use Rattle.meaning.specs.declared.duties.Opening.{Opening}
use Rattle.meaning.specs.declared.duties.Span.{Span}
use Rattle.meaning.specs.Intervals.{Setting}
use Rattle.meaning.specs.Work.{Work, goes}
use Rattle.meaning.specs.Passes.{pass}
use Rattle.meaning.specs.Visiting.{SettlesInAnyOrder, comes_to_rest}
use Rattle.meaning.specs.Runs.{whole_span, first_work, kept_by, going_on, next_work}
use Rattle.meaning.specs.Laws.{Roomy}
use Rattle.meaning.specs.WellFormed.{◌∈◌, here, there, WellFormed}
use Rattle.meaning.proofs.Lists.{all_snoc, longer}
use Rattle.meaning.proofs.VisitsKeep.{Kept, kept_any_order}
use Rattle.meaning.proofs.Changes.{kept_by_changes}
use Rattle.meaning.proofs.Fuel.{roomy_kept, next_roomy}
use Rattle.meaning.proofs.RunsInSomeOrder.{Stays, going_in, stale}
use Rattle.meaning.proofs.StaysWellFormed.{Resting}
use Rattle.meaning.proofs.AnyVisits.{any_order_rests}
use Rattle.meaning.proofs.FinishedSatisfies.{next_well_formed, first_well_formed}
use Rattle.meaning.proofs.PartOf.{AtRest, Distinct, Neat}
use Rattle.meaning.proofs.Neat.{neat_kept}

-- what a state starts with
pub record Start (S : Setting) (w : Work) : Type 0 where
  pub well_formed : WellFormed S w
  pub neat : Neat w
  pub roomy : Roomy w
  pub duties : Distinct w.duties
  pub unknown : (x : ℕ) → w.known x ≡ None
  pub free : (s : ℕ) → w.ends s ≡ Unknown
  pub nothing : w.later ≡ []

-- a span that was opened in this state
pub record Born (t : Span) : Type 0 where
  pub newly : t.fresh ≡ true
  pub how : Opening
  pub opened : t.opening ≡ Some how

-- each span was there at the start, or was opened in this state
abbrev pub Since : Work → Work → Type 0
Since w u = (t : Span) → t ∈ u.spans → (t ∈ w.spans) ⊎ Born t

since_kept : (S : Setting) (w : Work) → Kept S (Since w)
since_kept S w = kept_by_changes (record {
  value = λ x v u _ h. h;
  ending = λ e s u _ h. h;
  duty = λ d u _ _ h. h;
  carried = λ d u _ _ h. h;
  span = λ g u _ _ _ h. all_snoc (λ t. (t ∈ w.spans) ⊎ Born t) _ u.spans h (inr (record { newly = refl; how = g; opened = refl }));
})

-- as many serials were taken from w to u as there are spans more
abbrev pub Counted : Work → Work → Type 0
Counted w u = u.next + length w.spans ≡ w.next + length u.spans

pub counted_kept : (S : Setting) (w : Work) → Kept S (Counted w)
counted_kept S w = kept_by_changes (record {
  value = λ x v u _ h. h;
  ending = λ e s u _ h. h;
  duty = λ d u _ _ h. h;
  carried = λ d u _ _ h. h;
  span = λ g u _ _ _ h. omega (arith, h, longer u.spans (record { serial = u.next; opening = Some g; fresh = true }));
})

-- what a state that starts with w settles to, by visits in some order
pub record SettledFrom (S : Setting) (k : ℕ) (w u : Work) : Type 0 where
  pub resting : Resting S k w u
  pub at_rest : AtRest S k u
  pub neat : Neat u
  pub roomy : Roomy u
  pub since : Since w u
  pub counted : Counted w u

quiet_of : {S : Setting} {k : ℕ} {w u : Work} → SettlesInAnyOrder S k w (goes u false) → pass S k u ≡ goes u false
quiet_of (comes_to_rest a e) = e

pub settled_from : {S : Setting} → Limits S.sheet → {k : ℕ} {w u : Work} → Start S w → SettlesInAnyOrder S k w (goes u false) → SettledFrom S k w u
settled_from {S} L {k} {w} {u} A s =
    let R : Resting S k w u = any_order_rests S L A.well_formed s in
    record {
      resting = R;
      at_rest = record { well_formed = R.well_formed; quiet = quiet_of s };
      neat = kept_any_order S Neat (neat_kept S) s A.neat;
      roomy = kept_any_order S Roomy (roomy_kept S) s A.roomy;
      since = kept_any_order S (Since w) (since_kept S w) s (λ t q. inl q);
      counted = kept_any_order S (Counted w) (counted_kept S w) s refl;
    }

-- no two spans of the list have one serial
abbrev OneSerial : List Span → Type 0
OneSerial l = (t r : Span) → t ∈ l → r ∈ l → t.serial ≡ r.serial → t ≡ r

distinct_going : (e : ℕ → End) (l : List Span) → Distinct l → OneSerial l → Distinct (going_on e l)
distinct_going e [] d h = tt
distinct_going e (x ∷ l) d h = by (e x.serial) (distinct_going e l d.1 (λ t r q p. h t r (there q) (there p)))
  where
    not_again : stale x ∈ going_on e l → ⊥
    not_again q = let a : Stays e l (stale x) = going_in e l (stale x) q in d.0 (subst (λ z. z ∈ l) (h a.was x (there a.was_in) (here refl) a.same_serial) a.was_in)

    by : (c : End) → Distinct (going_on e l) → Distinct (kept_by c x (going_on e l))
    by Unknown i = i
    by On i = (not_again, i)
    by Last i = i

-- spans that stay are one where their serials are
stay_one : (u : Work) → Neat u → (t r : Span) → Stays u.ends u.spans t → Stays u.ends u.spans r → t.serial ≡ r.serial → t ≡ r
stay_one u N t r a b e =
    let w : a.was ≡ b.was = N.one_serial a.was b.was a.was_in b.was_in (a.same_serial ∙ e ∙ sym b.same_serial) in
    let o : t.opening ≡ r.opening = sym a.same_opening_says ∙ ap (λ (z : Span). z.opening) w ∙ b.same_opening_says in
    let f : t.fresh ≡ r.fresh = a.stale ∙ sym b.stale in
    λ i. record { serial = e i; opening = o i; fresh = f i }

module _ {S : Setting} where
  pub next_start : {k : ℕ} {w u : Work} → SettledFrom S k w u → Start S (next_work u)
  next_start {k} {w} {u} D = record {
    well_formed = next_well_formed k w u D.resting;
    neat = record {
      few_serials = λ t q. let a = going_in u.ends u.spans t q in subst (λ z. z < u.next) a.same_serial (D.neat.few_serials a.was a.was_in);
      one_serial = λ t r q p. stay_one u D.neat t r (going_in u.ends u.spans t q) (going_in u.ends u.spans r p);
      one_opening = λ g t r q p a b. absurd (both_ways t.fresh (going_in u.ends u.spans t q).stale a);
      spans = distinct_going u.ends u.spans D.neat.spans D.neat.one_serial;
      later = tt;
    };
    roomy = next_roomy u D.roomy;
    duties = D.neat.later;
    unknown = λ x. refl;
    free = λ s. refl;
    nothing = refl;
  }

  pub first_start : (p : ℕ) → Start S (first_work p)
  first_start p = record {
    well_formed = first_well_formed p;
    neat = record {
      few_serials = λ t q. few_serials t q;
      one_serial = λ t r q p e. only t q ∙ sym (only r p);
      one_opening = λ g t r q p a b o c. only t q ∙ sym (only r p);
      spans = ((λ q. elim q [ ]), tt);
      later = tt;
    };
    roomy = record { duties = omega arith; later = omega arith; spans = omega arith };
    duties = ((λ q. elim q [ ]), tt);
    unknown = λ x. refl;
    free = λ s. refl;
    nothing = refl;
  }
    where
      only : (t : Span) → t ∈ (whole_span ∷ []) → t ≡ whole_span
      only t (here e) = e
      only t (there q) = elim q [ ]

      few_serials : (t : Span) → t ∈ (whole_span ∷ []) → t.serial < 1
      few_serials t q = subst (λ z. z.serial < 1) (sym (only t q)) (omega arith)
