-- A finished record satisfies the statement that was run.
use Rattle.std.proofs.Common.{◌≡◌, ℕ, zero, suc, ◌<◌, ◌≤◌, [], ◌∷◌, ℤ, Some, None, Option, sym, refl, ap, ◌∙◌, subst, subst₂, arith}
use Rattle.std.proofs.lemmas.Bool.{both_ways}
use Rattle.sheet.specs.Limits.{Limits}
use Rattle.value.specs.declared.end.End.{End}
use Rattle.value.specs.declared.end.End.TheVariants.{Unknown, On, Last}
use Rattle.meaning.specs.declared.duties.Duty.{Duty}
use Rattle.meaning.specs.declared.duties.Opening.{Opening}
use Rattle.meaning.specs.declared.duties.Span.{Span}
use Rattle.meaning.specs.Intervals.{Setting, statement_at}
use Rattle.meaning.specs.Work.{Work, plain}
use Rattle.meaning.specs.Runs.{whole_span, first_work, going_on, next_work}
use Rattle.meaning.specs.WellFormed.{◌∈◌, here, there, Present, Nested, RunsBody, WellFormed}
use Rattle.meaning.proofs.Tests.{on_last}
use Rattle.meaning.proofs.Owing.{Owed, Due}
use Rattle.meaning.proofs.KnownNumbers.{EndSays}
use Rattle.meaning.proofs.Rest.{SpanRest}
use Rattle.meaning.proofs.FiveChanges.{Grows}
use Rattle.meaning.proofs.StaysWellFormed.{Resting}
use Rattle.meaning.proofs.AnyVisits.{any_order_rests}
use Rattle.meaning.proofs.RunsInSomeOrder.{Rows, RunBegins, at_first, one_on, Ends, Stays, going_in, stale, in_going, present_going}
use Rattle.meaning.proofs.Completeness.{EndOk, Fulfils, reaches, follows, exact}

module _ {S : Setting} where
  -- the next state starts in order
  pub next_well_formed : (k : ℕ) (w u : Work) → Resting S k w u → WellFormed S (next_work u)
  next_well_formed k w u R = record {
    fitted = λ x. tt;
    duty_present = λ d q. present_going u.ends u.spans d.span (R.well_formed.later_present d q).0 (R.well_formed.later_present d q).1;
    later_present = λ d q. elim q [ ];
    nested = λ t q. nested t (going_in u.ends u.spans t q);
    few_serials = λ t q. few_serials t (going_in u.ends u.spans t q);
    bodies = λ t q g o f. absurd (both_ways t.fresh (going_in u.ends u.spans t q).stale f);
  }
    where
      few_serials : (t : Span) → Stays u.ends u.spans t → t.serial < u.next
      few_serials t h = subst (λ s. s < u.next) h.same_serial (R.well_formed.few_serials h.was h.was_in)

      by : (s : ℕ) (q : Option Opening) → u.ends s ≡ On → SpanRest u s q → Nested u.spans s q → Nested (going_on u.ends u.spans) s q
      by s None o r n = n
      by s (Some g) o r n = (n.0, present_going u.ends u.spans g.follower.span n.1 (r.0 o))

      nested : (t : Span) → Stays u.ends u.spans t → Nested (going_on u.ends u.spans) t.serial t.opening
      nested t h = subst₂ (λ s q. Nested (going_on u.ends u.spans) s q) h.same_serial h.same_opening_says
          (by h.was.serial h.was.opening h.is_on (R.rest.of_span h.was h.was_in) (R.well_formed.nested h.was h.was_in))

  -- so does the first
  pub first_well_formed : (p : ℕ) → WellFormed S (first_work p)
  first_well_formed p = record {
    fitted = λ x. tt;
    duty_present = one_duty;
    later_present = λ d q. elim q [ ];
    nested = one_nested;
    few_serials = one_few_serials;
    bodies = one_body;
  }
    where
      one_duty : (d : Duty) → d ∈ (plain p 0 ∷ []) → Present (whole_span ∷ []) d.span
      one_duty d (here e) = record { span = whole_span; inside = here refl; named = ap (λ z. z.span) (sym e) }
      one_duty d (there q) = elim q [ ]

      one_nested : (t : Span) → t ∈ (whole_span ∷ []) → Nested (whole_span ∷ []) t.serial t.opening
      one_nested t (here e) = subst (λ z. Nested (whole_span ∷ []) z.serial z.opening) (sym e) refl
      one_nested t (there q) = elim q [ ]

      one_few_serials : (t : Span) → t ∈ (whole_span ∷ []) → t.serial < 1
      one_few_serials t (here e) = subst (λ z. z.serial < 1) (sym e) (omega arith)
      one_few_serials t (there q) = elim q [ ]

      one_body : (t : Span) → t ∈ (whole_span ∷ []) → RunsBody (first_work p) t
      one_body t (here e) g o f = absurd (both_ways t.fresh (ap (λ z. z.fresh) e) f)
      one_body t (there q) g o f = elim q [ ]

module _ (S : Setting) (L : Limits S.sheet) {ρ : ℕ → ℕ → ℤ} where
  -- so does every state of a run, and each settled one is at rest
  pub begins_well_formed : {k : ℕ} {w : Work} → RunBegins S ρ k w → WellFormed S w
  begins_well_formed at_first = first_well_formed S.sheet.run
  begins_well_formed (one_on {k = k} {w = w} {u = u} b r e) = next_well_formed k w u (any_order_rests S L (begins_well_formed b) r.settled)

  pub row_rests : {k : ℕ} {w u : Work} → RunBegins S ρ k w → Rows S ρ k w u → Resting S k w u
  row_rests b r = any_order_rests S L (begins_well_formed b) r.settled

-- the ends at state k from those of the next
abbrev back_by : End → ℕ → ℕ → ℕ
back_by Unknown k j = j
back_by On k j = j
back_by Last k j = k

back_on : {c : End} (k j : ℕ) → c ≡ On → back_by c k j ≡ j
back_on k j e = subst (λ c. back_by c k j ≡ j) (sym e) refl

-- the duties of a work, and what follows its spans, are met with the ends E
pub record Met (S : Setting) (ρ : ℕ → ℕ → ℤ) (k : ℕ) (E : ℕ → ℕ) (w : Work) : Type 0 where
  pub dues : (d : Duty) → d ∈ w.duties → Due S ρ k (E d.span) d
  pub written_length : (t : Span) → t ∈ w.spans → k ≤ E t.serial
  pub follow : (t : Span) (g : Opening) → t ∈ w.spans → t.opening ≡ Some g → (E t.serial ≤ E g.follower.span) × Due S ρ (E t.serial) (E g.follower.span) g.follower

met_less : {S : Setting} {ρ : ℕ → ℕ → ℤ} {k : ℕ} {E : ℕ → ℕ} {w u : Work} → Grows w u → Met S ρ k E u → Met S ρ k E w
met_less a m = record { dues = λ d q. m.dues d (a.more_duties d q); written_length = λ t q. m.written_length t (a.more_spans t q); follow = λ t g q. m.follow t g (a.more_spans t q) }

module _ (S : Setting) (L : Limits S.sheet) (ρ : ℕ → ℕ → ℤ) where
  met_of : {k : ℕ} {E : ℕ → ℕ} {u : Work} → Fulfils S ρ k E u → Met S ρ k E u
  met_of {k} {E} {u} F = record {
    dues = exact S L F;
    written_length = λ t q. reaches (u.ends t.serial) (F.span_ends t q).0 (F.span_ends t q).1;
    follow = λ t g q e. let f = follows S L F g t q e (exact S L F g.follower) in (f.till, f.due);
  }

  module _ (k : ℕ) (w u : Work) (b : RunBegins S ρ k w) (r : Rows S ρ k w u) where
    R : Resting S k w u
    R = row_rests S L b r

    -- from what a span's end says, what a number's says
    ok_at : (E : ℕ → ℕ) → ((t : Span) → t ∈ u.spans → EndOk k E u t.serial) → (s : ℕ) → Present u.spans s → EndOk k E u s
    ok_at E h s l = subst (λ z. EndOk k E u z) l.named (h l.span l.inside)

    outer_at : (E : ℕ → ℕ) → ((t : Span) → t ∈ u.spans → EndOk k E u t.serial) → (t : Span) (g : Opening) → t ∈ u.spans → t.opening ≡ Some g → EndOk k E u g.follower.span
    outer_at E h t g q e = let n : Nested u.spans t.serial (Some g) = subst (λ z. Nested u.spans t.serial z) e (R.well_formed.nested t q) in ok_at E h g.follower.span n.1

    outer_on : (t : Span) (g : Opening) → t ∈ u.spans → t.opening ≡ Some g → u.ends t.serial ≡ On → u.ends g.follower.span ≡ On
    outer_on t g q e o = let h : SpanRest u t.serial (Some g) = subst (λ z. SpanRest u t.serial z) e (R.rest.of_span t q) in h.0 o

    -- one state back
    fulfils_back : (E : ℕ → ℕ) → Met S ρ (suc k) E (next_work u) → Fulfils S ρ k (λ s. back_by (u.ends s) k (E s)) u
    fulfils_back E M = record {
      rest = R.rest;
      given = r.complete.all_given;
      values = r.values;
      duty_ends = λ d q. ok_at B spans d.span (R.well_formed.duty_present d q);
      span_ends = spans;
      outer_ends = outer_at B spans;
      bodies = R.well_formed.bodies;
      carried_on = λ d q. subst (λ j. Due S ρ (suc k) j d) (sym (back_on k (E d.span) (R.well_formed.later_present d q).1)) (M.dues d q);
      followed = λ t g q e o. subst₂ (λ i j. (i ≤ j) × Due S ρ i j g.follower) (sym (back_on k (E t.serial) o)) (sym (back_on k (E g.follower.span) (outer_on t g q e o))) (M.follow (stale t) g (in_going u.ends u.spans t q o) e);
    }
      where
        B : ℕ → ℕ
        B s = back_by (u.ends s) k (E s)

        by : (t : Span) → t ∈ u.spans → (c : End) → u.ends t.serial ≡ c → EndSays k (back_by c k (E t.serial)) c
        by t q Unknown e = tt
        by t q On e = M.written_length (stale t) (in_going u.ends u.spans t q e)
        by t q Last e = refl

        spans : (t : Span) → t ∈ u.spans → EndOk k B u t.serial
        spans t q = (r.complete.all_ended_says t q, by t q (u.ends t.serial) refl)

    -- when the whole span is last, no span is on
    none_on : u.ends 0 ≡ Last → (b : ℕ) (t : Span) → t ∈ u.spans → t.serial < b → u.ends t.serial ≡ On → ⊥
    none_on z zero t q l o = omega arith
    none_on z (suc b) t q l o = by t.opening refl (R.well_formed.nested t q) (none_on z b)
      where
        by : (s : Option Opening) → t.opening ≡ s → Nested u.spans t.serial s → ((r : Span) → r ∈ u.spans → r.serial < b → u.ends r.serial ≡ On → ⊥) → ⊥
        by None e n ih = on_last (sym o ∙ ap u.ends n ∙ z)
        by (Some g) e n ih = let v : Present u.spans g.follower.span = n.1 in ih v.span v.inside (omega (arith, v.named, n.0)) (ap u.ends v.named ∙ outer_on t g q e o)

    fulfils_last : u.ends 0 ≡ Last → Fulfils S ρ k (λ s. k) u
    fulfils_last z = record {
      rest = R.rest;
      given = r.complete.all_given;
      values = r.values;
      duty_ends = λ d q. ok_at (λ s. k) spans d.span (R.well_formed.duty_present d q);
      span_ends = spans;
      outer_ends = outer_at (λ s. k) spans;
      bodies = R.well_formed.bodies;
      carried_on = λ d q. let l : Present u.spans d.span = (R.well_formed.later_present d q).0 in absurd (none_on z (suc l.span.serial) l.span l.inside (omega arith) (ap u.ends l.named ∙ (R.well_formed.later_present d q).1));
      followed = λ t g q e o. absurd (none_on z (suc t.serial) t q (omega arith) o);
    }
      where
        by : (t : Span) → t ∈ u.spans → (c : End) → u.ends t.serial ≡ c → EndSays k k c
        by t q Unknown e = tt
        by t q On e = absurd (none_on z (suc t.serial) t q (omega arith) e)
        by t q Last e = refl

        spans : (t : Span) → t ∈ u.spans → EndOk k (λ s. k) u t.serial
        spans t q = (r.complete.all_ended_says t q, by t q (u.ends t.serial) refl)

  -- back over the whole run
  back : {m k : ℕ} {w : Work} → RunBegins S ρ k w → (E : ℕ → ℕ) → Met S ρ k E w → E 0 ≡ m → Owed S ρ 0 m (statement_at S S.sheet.run) None
  back at_first E M e = subst (λ j. Owed S ρ 0 j (statement_at S S.sheet.run) None) e (M.dues (plain S.sheet.run 0) (here refl))
  back (one_on {k = k} {w = w} {u = u} b r o) E M e =
      back b (λ s. back_by (u.ends s) k (E s)) (met_less (row_rests S L b r).grown (met_of (fulfils_back k w u b r E M))) (back_on k (E 0) o ∙ e)

  -- the statement that is run holds on a finished record
  pub ends_hold : {k : ℕ} {w u : Work} → Ends S ρ k w u → Owed S ρ 0 k (statement_at S S.sheet.run) None
  ends_hold {k} {w} {u} f =
      back f.begun (λ s. k) (met_less (row_rests S L f.begun f.row).grown (met_of (fulfils_last k w u f.begun f.row f.over))) refl
