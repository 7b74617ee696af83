-- Over a run: a satisfying interval begins with the record, goes on while the run is open, and ends where it has finished.
use Rattle.std.proofs.Common.{◌≡◌, ℕ, suc, ◌<◌, ◌≤◌, Bool, true, [], ◌∷◌, ℤ, Some, None, Option, sym, refl, ◌∙◌, subst, subst₂, arith}
use native.Mathlib.Decide.{ℕ_discrete}
use Rattle.sheet.specs.Limits.{Limits}
use Rattle.value.specs.declared.end.End.TheVariants.{On}
use Rattle.meaning.specs.declared.duties.Duty.{Duty}
use Rattle.meaning.specs.declared.duties.Opening.{Opening}
use Rattle.meaning.specs.declared.duties.Span.{Span}
use Rattle.meaning.specs.declared.duties.Stop.TheVariants.{Contradiction}
use Rattle.meaning.specs.Intervals.{Setting, width, statement_at, value_fits}
use Rattle.meaning.specs.Work.{Work, Outcome, stops, goes, plain}
use Rattle.meaning.specs.Visiting.{SettlesInAnyOrder}
use Rattle.meaning.specs.Runs.{whole_span, first_work, next_work}
use Rattle.meaning.specs.WellFormed.{◌∈◌, here, there}
use Rattle.meaning.specs.AnyOrder.{opened_renamed}
use Rattle.meaning.proofs.Lists.{none_some}
use Rattle.meaning.proofs.Owing.{Owed}
use Rattle.meaning.proofs.KnownNumbers.{given_is}
use Rattle.meaning.proofs.RunsInSomeOrder.{Rows, RunBegins, at_first, one_on, Ends, Stays, going_in, end_on, end_last}
use Rattle.meaning.proofs.Grants.{OuterBelow, DutyPlaced, SpanPlaced, PlacedIn}
use Rattle.meaning.proofs.PlacedEffects.{FindsPlaces, finds_clash, finds}
use Rattle.meaning.proofs.PlacedVisits.{any_order_finds}
use Rattle.meaning.proofs.IntervalGrants.{FollowsOn, holding, holding_lawful}

-- the interval σ, whose last state is m, grants the work of state k, at places of which that of the whole interval is m
pub record Granted (S : Setting) (σ : ℕ → ℕ → ℤ) (m k : ℕ) (w : Work) : Type 0 where
  pub n : ℕ
  pub φ : ℕ → ℕ
  pub first : 0 < n
  pub whole : φ 0 ≡ m
  pub placed : PlacedIn (holding S σ k) n φ w

-- what is known of a satisfying interval when state k begins
pub record Fore (S : Setting) (ρ σ : ℕ → ℕ → ℤ) (m k : ℕ) (w : Work) : Type 0 where
  pub within : k ≤ m
  pub same : (i : ℕ) → i < k → (x : ℕ) → x < width S → ρ i x ≡ σ i x
  pub granted : Granted S σ m k w

-- σ, whose last state is m, satisfies the sheet
pub record Fits (S : Setting) (σ : ℕ → ℕ → ℤ) (m : ℕ) : Type 0 where
  pub legal : (i : ℕ) → i ≤ m → (x : ℕ) → value_fits S x (σ i x) ≡ true
  pub holds : Owed S σ 0 m (statement_at S S.sheet.run) None

-- what follows a span that goes on
follows_next : (S : Setting) (σ : ℕ → ℕ → ℤ) (k s : ℕ) (q : Option Opening) → suc k ≤ s → FollowsOn S σ k s q → FollowsOn S σ (suc k) s q
follows_next S σ k s None l h = tt
follows_next S σ k s (Some g) l h = (l, h.1, h.2)

module _ {S : Setting} {σ : ℕ → ℕ → ℤ} {k : ℕ} where
  -- the places of a work that has settled are those of the next state
  next_placed : {n : ℕ} {φ : ℕ → ℕ} (u : Work) → PlacedIn (holding S σ k) n φ u → PlacedIn (holding S σ (suc k)) n φ (next_work u)
  next_placed {n} {φ} u X = record {
    next_is = X.next_is;
    values = λ x v e. absurd (none_some v e);
    ends = λ s. tt;
    spans = λ t q. still t (going_in u.ends u.spans t q);
    duties = X.later;
    later = λ d q. elim q [ ];
    besides = tt;
  }
    where
      still : (t : Span) → Stays u.ends u.spans t → SpanPlaced (holding S σ (suc k)) n φ t
      still t h =
          let r : SpanPlaced (holding S σ k) n φ h.was = X.spans h.was h.was_in in
          subst₂ (λ s q. (s < n) × OuterBelow n q × FollowsOn S σ (suc k) (φ s) (opened_renamed φ q)) h.same_serial h.same_opening_says
          (r.0, r.1, follows_next S σ k (φ h.was.serial) (opened_renamed φ h.was.opening) (end_on h.is_on (X.ends h.was.serial)) r.2)

  -- the whole interval keeps its place
  granted_of : {m n : ℕ} {φ : ℕ → ℕ} {u : Work} {c : Bool} → 0 < n → φ 0 ≡ m → FindsPlaces (holding S σ k) n φ (goes u c) → Granted S σ m k u
  granted_of l e (finds r ψ a s Y) = record { n = r; φ = ψ; first = omega arith; whole = s 0 l ∙ e; placed = Y }

  -- an interval grants no contradiction
  refuted : {n p : ℕ} {φ : ℕ → ℕ} → FindsPlaces (holding S σ k) n φ (stops (Contradiction p)) → ⊥
  refuted (finds_clash c) = c

module _ (S : Setting) (L : Limits S.sheet) {ρ σ : ℕ → ℕ → ℤ} {m : ℕ} (G : Fits S σ m) where
  -- at first there is the whole interval, and the statement that is run holds of it
  fore_start : Fore S ρ σ m 0 (first_work S.sheet.run)
  fore_start = record { within = omega arith; same = λ i h. absurd (omega arith); granted = record { n = 1; φ = λ _. m; first = omega arith; whole = refl; placed = placed } }
    where
      one_span : (t : Span) → t ∈ (whole_span ∷ []) → SpanPlaced (holding S σ 0) 1 (λ _. m) t
      one_span t (here e) = subst (λ z. SpanPlaced (holding S σ 0) 1 (λ _. m) z) (sym e) (omega arith, tt, tt)
      one_span t (there q) = elim q [ ]

      one_duty : (d : Duty) → d ∈ (plain S.sheet.run 0 ∷ []) → DutyPlaced (holding S σ 0).now 1 (λ _. m) d
      one_duty d (here e) = subst (λ z. DutyPlaced (holding S σ 0).now 1 (λ _. m) z) (sym e) (omega arith, (omega arith, G.holds))
      one_duty d (there q) = elim q [ ]

      placed : PlacedIn (holding S σ 0) 1 (λ _. m) (first_work S.sheet.run)
      placed = record { next_is = refl; values = λ x v e. absurd (none_some v e); ends = λ s. tt; spans = one_span; duties = one_duty; later = λ d q. elim q [ ]; besides = tt }

  -- what the work of a state settles to has places too
  settles_finds : {k : ℕ} {w : Work} {o : Outcome} (B : Fore S ρ σ m k w) → SettlesInAnyOrder S k w o → FindsPlaces (holding S σ k) B.granted.n B.granted.φ o
  settles_finds {k} B s = any_order_finds (holding_lawful S L σ k (G.legal k B.within)) s B.granted.placed

  -- so the settled work is granted
  settled : {k : ℕ} {w u : Work} → Fore S ρ σ m k w → Rows S ρ k w u → Granted S σ m k u
  settled B R = granted_of B.granted.first B.granted.whole (settles_finds B R.settled)

  -- and its numbers are those of the interval
  agrees : {k : ℕ} {w u : Work} → Fore S ρ σ m k w → Granted S σ m k u → Rows S ρ k w u → (i : ℕ) → i < suc k → (x : ℕ) → x < width S → ρ i x ≡ σ i x
  agrees {k} {w} {u} B X R i h x l = by (ℕ_discrete i k)
    where
      by : Dec (i ≡ k) → ρ i x ≡ σ i x
      by (yes e) = subst (λ j. ρ j x ≡ σ j x) (sym e) (sym (X.placed.values x (ρ k x) (given_is (u.known x) (ρ k x) (R.complete.all_given x l) (R.values x l))))
      by (no q) = B.same i (omega arith) x l

  -- one state on
  fore_step : {k : ℕ} {w u : Work} → Fore S ρ σ m k w → Rows S ρ k w u → u.ends 0 ≡ On → Fore S ρ σ m (suc k) (next_work u)
  fore_step {k} {w} {u} B R e =
      let X : Granted S σ m k u = settled B R in
      record {
        within = subst (λ j. k < j) X.whole (end_on e (X.placed.ends 0));
        same = agrees B X R;
        granted = record { n = X.n; φ = X.φ; first = X.first; whole = X.whole; placed = next_placed u X.placed };
      }

  -- so it is at each state that begins
  pub fore : {k : ℕ} {w : Work} → RunBegins S ρ k w → Fore S ρ σ m k w
  fore at_first = fore_start
  fore (one_on b R e) = fore_step (fore b) R e

  -- after a contradiction no interval satisfies the sheet
  pub contradiction_refutes : {k : ℕ} {w : Work} {place : ℕ} → RunBegins S ρ k w → SettlesInAnyOrder S k w (stops (Contradiction place)) → ⊥
  contradiction_refutes b r = refuted (settles_finds (fore b) r)

  -- a finished record is the whole of every satisfying interval
  pub ends_same : {k : ℕ} {w u : Work} → Ends S ρ k w u → (m ≡ k) × ((i : ℕ) → i ≤ m → (x : ℕ) → x < width S → ρ i x ≡ σ i x)
  ends_same {k} {w} {u} f =
      let B : Fore S ρ σ m k w = fore f.begun in
      let X : Granted S σ m k u = settled B f.row in
      let e : m ≡ k = sym X.whole ∙ end_last f.over (X.placed.ends 0) in
      (e, λ i h. agrees B X f.row i (omega arith))
