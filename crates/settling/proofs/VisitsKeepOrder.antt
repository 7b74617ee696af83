-- What a visit keeps: the order of the work, and what was so before it.
use Rattle.std.proofs.Common.{◌≡◌, ℕ, Bool, true, ltb, List, ◌++◌, length, take, drop, Some, None, Option, Ok, Err, Result, OnOk, sym, refl, ap, ◌∙◌, subst}
use Rattle.std.proofs.Math.Seq.{take-append_seam}
use Rattle.std.specs.List.{slice_get}
use Rattle.std.proofs.lemmas.Bool.{cond_both}
use Rattle.sheet.specs.declared.kept.Sheet.{Sheet}
use Rattle.sheet.specs.Limits.{Limits}
use Rattle.value.specs.declared.end.End.{End}
use Rattle.value.specs.declared.end.End.TheVariants.{Unknown, On, Last}
use Rattle.meaning.specs.declared.duties.Duty.{Duty}
use Rattle.meaning.specs.declared.duties.Opening.{Opening}
use Rattle.meaning.specs.declared.duties.Span.{Span}
use Rattle.meaning.specs.declared.duties.Stop.{Stop}
use Rattle.meaning.specs.declared.duties.Stop.TheVariants.{Crowded}
use Rattle.meaning.specs.Intervals.{Setting, statement_at}
use Rattle.meaning.specs.Work.{Work, Outcome, stops, goes, unchanged, also, and_then, has_duty}
use Rattle.meaning.specs.Effects.{most_duties, with_duty, if_room, put_by, put, add}
use Rattle.meaning.specs.Rules.{visit, inherit_last, give_on, visit_opened, visit_span}
use Rattle.meaning.specs.WellFormed.{Present, WellFormed, Extends}
use Rattle.meaning.proofs.Lists.{nth_in}
use Rattle.meaning.proofs.KnownNumbers.{statement_with_ok}
use Rattle.meaning.proofs.FiveChanges.{Moves, moves_on, Any}
use Rattle.meaning.proofs.StaysWellFormed.{rule_moves, opened_moves}
use Rattle.meaning.proofs.VisitsKeep.{OfWork, kept_visit}
use Rattle.meaning.proofs.Extending.{later_refl, later_kept}
use Rattle.board.specs.Outcomes.{outcome_of}
use Rattle.rules.specs.declared.visit.Visited.{Visited}
use Rattle.rules.specs.Visits.{visit_changed}
use Rattle.sheet.specs.ContentOf.{content_of}

-- a sheet keeps the limits
pub limits_of : (s : Sheet) → Limits (content_of s)
limits_of s = record { counts = s.counts; variables = s.names; expressions = s.operands; sizes = s.small; statements = s.order; run = s.runs; text = s.short }

-- what moves to a work in order
well_formed_of : {S : Setting} {w u : Work} {c : Bool} → Moves S w Any (goes u c) → WellFormed S u
well_formed_of (moves_on g l t p) = t

-- what an answer of `Ok` says of the work that it leaves
pub told_ok : (r : Result Visited Stop) (u : Work) (o : Outcome) (P : Type 0) → outcome_of (visit_changed r) u ≡ o → ((c : Bool) → goes u c ≡ o → P) → OnOk r P
told_ok (Ok v) u o P e f = f v.changed e
told_ok (Err s) u o P e f = tt

-- a slice of a whole list, given back, is the list
pub back : (n : ℕ) (new old : List ℕ) → n ≡ length new → take n (new ++ drop (length new) old) ≡ new
back n new old e = ap (λ (z : ℕ). take z (new ++ drop (length new) old)) e ∙ take-append_seam new (drop (length new) old)

-- a visit to a duty of the list keeps the work in order
pub visit_well_formed : (S : Setting) → Limits S.sheet → (k i : ℕ) (d : Duty) (w u : Work) (c : Bool) → WellFormed S w → slice_get w.duties i ≡ Some d → goes u c ≡ visit S k d w → WellFormed S u
visit_well_formed S L k i d w u c t e h =
    let m : Moves S w Any (visit S k d w) = rule_moves k (length S.sheet.expressions) d.statement d w (statement_at S d.statement) d.number (statement_with_ok S L d.statement) t (t.duty_present d (nth_in w.duties i d e)) in
    well_formed_of (subst (λ (z : Outcome). Moves S w Any z) (sym h) m)

-- and leads to a later one
pub visit_later : (S : Setting) (k : ℕ) (d : Duty) (w u : Work) (c : Bool) → goes u c ≡ visit S k d w → Extends w u
visit_later S k d w u c h = subst (λ (z : Outcome). OfWork (Extends w) z) (sym h) (kept_visit S (Extends w) (later_kept S w) k d w (later_refl w))

-- a fact of an outcome's work, where something has changed before
of_also : (P : Work → Type 0) (c : Bool) (o : Outcome) → OfWork P o → OfWork P (also c o)
of_also P c (stops s) h = h
of_also P c (goes u b) h = h

-- and of one thing after another
of_next : (P : Work → Type 0) (o : Outcome) (f : Work → Outcome) → OfWork P o → ((u : Work) → P u → OfWork P (f u)) → OfWork P (and_then o f)
of_next P (stops s) f h g = h
of_next P (goes u c) f h g = of_also P c (f u) (g u h)

-- a visit to a span keeps what putting an end and adding a duty keep
module _ (P : Work → Type 0) (puts : (p : ℕ) (e : End) (s : ℕ) (w : Work) → P w → OfWork P (put p e s w)) (adds : (d : Duty) (w : Work) → P w → OfWork P (add d w)) where
  of_take : (c : End) (p s : ℕ) (w : Work) → P w → OfWork P (inherit_last c p s w)
  of_take Unknown p s w h = h
  of_take On p s w h = h
  of_take Last p s w h = puts p Last s w h

  of_hand : (c : End) (g : Opening) (w : Work) → P w → OfWork P (give_on c g w)
  of_hand Unknown g w h = h
  of_hand On g w h = puts g.by On g.follower.span w h
  of_hand Last g w h = adds g.follower w h

  of_opened : (q : Option Opening) (s : ℕ) (w : Work) → P w → OfWork P (visit_opened q s w)
  of_opened None s w h = h
  of_opened (Some g) s w h = of_next P (inherit_last (w.ends g.follower.span) g.by s w) (λ u. give_on (u.ends s) g u) (of_take (w.ends g.follower.span) g.by s w h) (λ u. of_hand (u.ends s) g u)

-- a visit to a span leads to a later work
pub span_later : (S : Setting) (t : Span) (w u : Work) (c : Bool) → goes u c ≡ visit_span t w → Extends w u
span_later S t w u c h = subst (λ (z : Outcome). OfWork (Extends w) z) (sym h) (of_opened (Extends w) (later_kept S w).puts (later_kept S w).adds t.opening t.serial w (later_refl w))

-- to put an end opens no span
put_same : (l : List Span) (p : ℕ) (c e : End) (s : ℕ) (w : Work) → w.spans ≡ l → OfWork (λ u. u.spans ≡ l) (put_by p c e s w)
put_same l p Unknown Unknown s w h = h
put_same l p Unknown On s w h = h
put_same l p Unknown Last s w h = h
put_same l p On Unknown s w h = h
put_same l p On On s w h = h
put_same l p On Last s w h = tt
put_same l p Last Unknown s w h = h
put_same l p Last On s w h = tt
put_same l p Last Last s w h = h

-- nor does a larger work with the same spans
room_same : (l : List Span) (b : Bool) (u : Work) → u.spans ≡ l → OfWork (λ v. v.spans ≡ l) (if_room b u)
room_same l b u h = cond_both b (goes u true) (stops Crowded) (OfWork (λ v. v.spans ≡ l)) (λ _. h) (λ _. tt)

-- nor does to add a duty
add_same : (l : List Span) (d : Duty) (w : Work) → w.spans ≡ l → OfWork (λ u. u.spans ≡ l) (add d w)
add_same l d w h =
    let room : Bool = ltb (length w.duties) most_duties in
    cond_both (has_duty d w.duties) (unchanged w) (if_room room (with_duty d w)) (OfWork (λ u. u.spans ≡ l)) (λ _. h) (λ _. room_same l room (with_duty d w) h)

-- so a visit to a span opens none
pub span_same : (t : Span) (w u : Work) (c : Bool) → goes u c ≡ visit_span t w → u.spans ≡ w.spans
span_same t w u c h =
    let P : Work → Type 0 = λ v. v.spans ≡ w.spans in
    subst (λ (z : Outcome). OfWork P z) (sym h) (of_opened P (λ p e s v. put_same w.spans p (v.ends s) e s v) (add_same w.spans) t.opening t.serial w refl)

-- a span of the list lives
pub span_present : (l : List Span) (i : ℕ) (t : Span) → slice_get l i ≡ Some t → Present l t.serial
span_present l i t e = record { span = t; inside = nth_in l i t e; named = refl }

-- a visit to it keeps the work in order
pub span_well_formed : (S : Setting) (i : ℕ) (t : Span) (w u : Work) (c : Bool) → WellFormed S w → slice_get w.spans i ≡ Some t → goes u c ≡ visit_span t w → WellFormed S u
span_well_formed S i t w u c y e h =
    well_formed_of (subst (λ (z : Outcome). Moves S w Any z) (sym h) (opened_moves t.opening t.serial w y (span_present w.spans i t e) (y.nested t (nth_in w.spans i t e))))
