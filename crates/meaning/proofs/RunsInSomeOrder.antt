-- The states of a run, each settled in some order, with the record as a function of state and variable.
use Rattle.std.proofs.Common.{◌≡◌, ℕ, suc, ◌<◌, false, List, [], ◌∷◌, ℤ, sym, refl, ap, ◌∙◌, subst, arith}
use Rattle.value.specs.declared.end.End.{End}
use Rattle.value.specs.declared.end.End.TheVariants.{Unknown, On, Last}
use Rattle.value.proofs.Numbers.{MatchesNumber}
use Rattle.meaning.specs.declared.duties.Span.{Span}
use Rattle.meaning.specs.Intervals.{Setting, width}
use Rattle.meaning.specs.Work.{Work, goes}
use Rattle.meaning.specs.Visiting.{SettlesInAnyOrder}
use Rattle.meaning.specs.Runs.{first_work, kept_by, going_on, next_work}
use Rattle.meaning.specs.WellFormed.{◌∈◌, here, there, Present, IsEnded}
use Rattle.meaning.proofs.KnownNumbers.{IsGiven, EndSays}

-- every variable and every span's end is known
pub record Complete (n : ℕ) (u : Work) : Type 0 where
  pub all_given : (x : ℕ) → x < n → IsGiven (u.known x)
  pub all_ended_says : (t : Span) → t ∈ u.spans → IsEnded (u.ends t.serial)

-- the work u settles state k of the record ρ, which started with the work w
pub record Rows (S : Setting) (ρ : ℕ → ℕ → ℤ) (k : ℕ) (w u : Work) : Type 0 where
  pub settled : SettlesInAnyOrder S k w (goes u false)
  pub complete : Complete (width S) u
  pub values : (x : ℕ) → x < width S → MatchesNumber (u.known x) (ρ k x)

-- state k of the record ρ starts with the work w
pub data RunBegins (S : Setting) (ρ : ℕ → ℕ → ℤ) : ℕ → Work → Type 0 where
  at_first : RunBegins S ρ 0 (first_work S.sheet.run)
  one_on : {k : ℕ} {w u : Work} → RunBegins S ρ k w → Rows S ρ k w u → u.ends 0 ≡ On → RunBegins S ρ (suc k) (next_work u)

-- the run has finished with state k
pub record Ends (S : Setting) (ρ : ℕ → ℕ → ℤ) (k : ℕ) (w u : Work) : Type 0 where
  pub begun : RunBegins S ρ k w
  pub row : Rows S ρ k w u
  pub over : u.ends 0 ≡ Last

-- a record that is the same up to state k
pub begins_as : {S : Setting} {ρ θ : ℕ → ℕ → ℤ} {k : ℕ} {w : Work} → ((i : ℕ) → i < k → (x : ℕ) → ρ i x ≡ θ i x) → RunBegins S ρ k w → RunBegins S θ k w
begins_as a at_first = at_first
begins_as a (one_on {k = k} {u = u} b r o) =
    one_on (begins_as (λ i h. a i (omega arith)) b)
    (record { settled = r.settled; complete = r.complete; values = λ x l. subst (λ z. MatchesNumber (u.known x) z) (a k (omega arith) x) (r.values x l) }) o

-- a span that went on
pub record Stays (e : ℕ → End) (l : List Span) (t : Span) : Type 0 where
  pub was : Span
  pub was_in : was ∈ l
  pub same_serial : was.serial ≡ t.serial
  pub same_opening_says : was.opening ≡ t.opening
  pub stale : t.fresh ≡ false
  pub is_on : e was.serial ≡ On

stays_up : {e : ℕ → End} {l : List Span} {t : Span} (x : Span) → Stays e l t → Stays e (x ∷ l) t
stays_up x h = record { was = h.was; was_in = there h.was_in; same_serial = h.same_serial; same_opening_says = h.same_opening_says; stale = h.stale; is_on = h.is_on }

-- a span that is kept went on
pub going_in : (e : ℕ → End) (l : List Span) (t : Span) → t ∈ going_on e l → Stays e l t
going_in e [] t q = elim q [ ]
going_in e (x ∷ l) t q = by (e x.serial) refl (going_in e l t) q
  where
    this : e x.serial ≡ On → t ≡ record { serial = x.serial; opening = x.opening; fresh = false } → Stays e (x ∷ l) t
    this r p = record { was = x; was_in = here refl; same_serial = ap (λ z. z.serial) (sym p); same_opening_says = ap (λ z. z.opening) (sym p); stale = ap (λ z. z.fresh) p; is_on = r }

    head : e x.serial ≡ On → (t ∈ going_on e l → Stays e l t) → t ∈ (record { serial = x.serial; opening = x.opening; fresh = false } ∷ going_on e l) → Stays e (x ∷ l) t
    head r ih (here p) = this r p
    head r ih (there m) = stays_up x (ih m)

    by : (c : End) → e x.serial ≡ c → (t ∈ going_on e l → Stays e l t) → t ∈ kept_by c x (going_on e l) → Stays e (x ∷ l) t
    by Unknown r ih m = stays_up x (ih m)
    by On r ih m = head r ih m
    by Last r ih m = stays_up x (ih m)

-- a span as it is kept
abbrev pub stale : Span → Span
stale t = record { serial = t.serial; opening = t.opening; fresh = false }

skip : (c : End) (x t : Span) (l : List Span) → t ∈ l → t ∈ kept_by c x l
skip Unknown x t l m = m
skip On x t l m = there m
skip Last x t l m = m

-- a span that goes on is kept
pub in_going : (e : ℕ → End) (l : List Span) (t : Span) → t ∈ l → e t.serial ≡ On → stale t ∈ going_on e l
in_going e [] t q h = elim q [ ]
in_going e (x ∷ l) t (here p) h = subst (λ c. stale t ∈ kept_by c x (going_on e l)) (sym h ∙ ap (λ z. e z.serial) p) (here (ap stale p))
in_going e (x ∷ l) t (there m) h = skip (e x.serial) x (stale t) (going_on e l) (in_going e l t m h)

pub present_going : (e : ℕ → End) (l : List Span) (s : ℕ) → Present l s → e s ≡ On → Present (going_on e l) s
present_going e l s h o = record { span = stale h.span; inside = in_going e l h.span h.inside (ap e h.named ∙ o); named = h.named }

-- an end that is on, or last, says where the span ends
pub end_on : {k j : ℕ} {c : End} → c ≡ On → EndSays k j c → k < j
end_on {k} {j} e h = subst (λ c. EndSays k j c) e h

pub end_last : {k j : ℕ} {c : End} → c ≡ Last → EndSays k j c → j ≡ k
end_last {k} {j} e h = subst (λ c. EndSays k j c) e h
