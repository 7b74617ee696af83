-- Visits in any order keep a work in order and make it grow; and passes are visits in one of the orders.
use Rattle.std.proofs.Common.{◌≡◌, ℕ, zero, suc, ◌+◌, ◌<◌, ◌≤◌, Bool, true, false, List, [], ◌∷◌, length, Some, None, Option, sym, refl, ap, ◌∙◌, subst, arith}
use Rattle.std.specs.List.{slice_get}
use Rattle.sheet.specs.Limits.{Limits}
use Rattle.meaning.specs.declared.duties.Duty.{Duty}
use Rattle.meaning.specs.declared.duties.Span.{Span}
use Rattle.meaning.specs.declared.duties.Stop.{Stop}
use Rattle.meaning.specs.Intervals.{Setting, width, statement_at}
use Rattle.meaning.specs.Work.{Work, Outcome, stops, goes, unchanged, also, and_then}
use Rattle.meaning.specs.Effects.{most_duties}
use Rattle.meaning.specs.Passes.{visit_or, visit_duties, visit_spans, pass_fuel, pass, Settles, rests, breaks, again}
use Rattle.meaning.specs.Visiting.{OneVisit, to_duty, to_span, Visits, no_visit, one_visit_more, SettlesInAnyOrder, comes_to_rest, meets_stop}
use Rattle.meaning.specs.Laws.{Roomy}
use Rattle.meaning.specs.WellFormed.{◌∈◌, here, there, WellFormed}
use Rattle.meaning.proofs.Lists.{nth_in, nth_within}
use Rattle.meaning.proofs.KnownNumbers.{statement_with_ok}
use Rattle.meaning.proofs.Rest.{Rest, rule_rests, opened_rests, pass_rests}
use Rattle.meaning.proofs.Measure.{left}
use Rattle.meaning.proofs.FiveChanges.{Grows, grows_refl, grows_trans, Moves, Any}
use Rattle.meaning.proofs.StaysWellFormed.{Resting, rule_moves, opened_moves, grown_of}
use Rattle.meaning.proofs.VisitsKeep.{kept_visits}
use Rattle.meaning.proofs.Fuel.{roomy_kept, fuel_is}

-- visits lead to an outcome
data Leads (S : Setting) (k : ℕ) (w : Work) : Outcome → Type 0 where
  leads_on : {u : Work} {c : Bool} → Visits S k w u → Leads S k w (goes u c)
  leads_stop : {u : Work} {s : Stop} → Visits S k w u → OneVisit S k u (stops s) → Leads S k w (stops s)

module _ {S : Setting} {k : ℕ} where
  visits_then : {w u v : Work} → Visits S k w u → Visits S k u v → Visits S k w v
  visits_then a no_visit = a
  visits_then a (one_visit_more b v) = one_visit_more (visits_then a b) v

  -- what was visited before may count
  pub any_order_after : {w u : Work} {o : Outcome} → Visits S k w u → SettlesInAnyOrder S k u o → SettlesInAnyOrder S k w o
  any_order_after a (comes_to_rest b e) = comes_to_rest (visits_then a b) e
  any_order_after a (meets_stop b v) = meets_stop (visits_then a b) v

  leads_visit : {w : Work} (o : Outcome) → OneVisit S k w o → Leads S k w o
  leads_visit (stops s) v = leads_stop no_visit v
  leads_visit (goes u c) v = leads_on (one_visit_more no_visit v)

  leads_after : {w u : Work} {o : Outcome} (c : Bool) → Visits S k w u → Leads S k u o → Leads S k w (also c o)
  leads_after c a (leads_on b) = leads_on (visits_then a b)
  leads_after c a (leads_stop b v) = leads_stop (visits_then a b) v

  leads_then : {w : Work} {o : Outcome} (f : Work → Outcome) → Leads S k w o → ((u : Work) → Visits S k w u → Leads S k u (f u)) → Leads S k w (and_then o f)
  leads_then f (leads_stop a v) h = leads_stop a v
  leads_then f (leads_on {u = u} {c = c} a) h = leads_after c a (h u a)

  leads_or : (q : Option Duty) (f : Work → Outcome) (w : Work) → ((d : Duty) → q ≡ Some d → d ∈ w.duties) → ((d : Duty) → q ≡ Some d → (u : Work) → Visits S k w u → Leads S k u (f u)) → Leads S k w (visit_or S k q f w)
  leads_or None f w i h = leads_on no_visit
  leads_or (Some d) f w i h = leads_then f (leads_visit _ (to_duty d (i d refl) refl)) (h d refl)

  -- the visits to duties, while the fuel lasts
  leads_duties : (f i : ℕ) (w : Work) → i ≤ most_duties → most_duties < f + i → Roomy w → Leads S k w (visit_duties S k f i w)
  leads_duties zero i w l m h = absurd (omega arith)
  leads_duties (suc f) i w l m h =
      leads_or (slice_get w.duties i) (visit_duties S k f (suc i)) w (λ d e. nth_in w.duties i d e)
      (λ d e u a. leads_duties f (suc i) u (omega (arith, nth_within w.duties i d e, h.duties)) (omega arith) (kept_visits S Roomy (roomy_kept S) a h))

  visits_of : {w u : Work} {c : Bool} → Leads S k w (goes u c) → Visits S k w u
  visits_of (leads_on a) = a

  stop_of : {w : Work} {s : Stop} → Leads S k w (stops s) → SettlesInAnyOrder S k w (stops s)
  stop_of (leads_stop a v) = meets_stop a v

-- a visit that changes nothing leaves the work
pub visit_same : {S : Setting} {k : ℕ} {u v : Work} → OneVisit S k u (goes v false) → v ≡ u
visit_same {S} {k} {u} {v} (to_duty d q e) = sym (rule_rests S k d u (statement_at S d.statement) d.number v e).0
visit_same {u = u} {v = v} (to_span t q e) = sym (opened_rests u t.serial t.opening v e).0

module _ (S : Setting) (L : Limits S.sheet) where
  one_visit_moves : {k : ℕ} {w : Work} {o : Outcome} → WellFormed S w → OneVisit S k w o → Moves S w Any o
  one_visit_moves {k} {w} t (to_duty d q e) =
      subst (λ z. Moves S w Any z) e (rule_moves k (length S.sheet.expressions) d.statement d w (statement_at S d.statement) d.number (statement_with_ok S L d.statement) t (t.duty_present d q))
  one_visit_moves {k} {w} t (to_span r q e) = subst (λ z. Moves S w Any z) e (opened_moves r.opening r.serial w t (record { span = r; inside = q; named = refl }) (t.nested r q))

  pub visits_move : {k : ℕ} {w u : Work} → WellFormed S w → Visits S k w u → Grows w u × WellFormed S u
  visits_move {w = w} t no_visit = (grows_refl w, t)
  visits_move t (one_visit_more a v) = let r = visits_move t a in let m = grown_of S L (one_visit_moves r.1 v) in (grows_trans r.0 m.0, m.1)

  -- a visit that changes something lowers the measure
  pub visit_falls : {k : ℕ} {u v : Work} → WellFormed S u → OneVisit S k u (goes v true) → left (width S) v < left (width S) u
  visit_falls t v = (grown_of S L (one_visit_moves t v)).2.lt refl

  -- a work that visits bring to rest is settled
  pub any_order_rests : {k : ℕ} {w u : Work} → WellFormed S w → SettlesInAnyOrder S k w (goes u false) → Resting S k w u
  any_order_rests {k} {w} {u} t (comes_to_rest a e) = let m = visits_move t a in record { grown = m.0; well_formed = m.1; rest = (pass_rests S k u u e).1 }

  leads_spans : {k : ℕ} (l : List Span) (w : Work) → ((t : Span) → t ∈ l → t ∈ w.spans) → WellFormed S w → Leads S k w (visit_spans l w)
  leads_spans [] w i t = leads_on no_visit
  leads_spans (x ∷ l) w i t =
      leads_then (visit_spans l) (leads_visit _ (to_span x (i x (here refl)) refl)) (λ u a. let m = visits_move t a in leads_spans l u (λ r q. m.0.more_spans r (i r (there q))) m.1)

  leads_pass : {k : ℕ} (w : Work) → WellFormed S w → Roomy w → Leads S k w (pass S k w)
  leads_pass w t h = leads_then (λ u. visit_spans u.spans u) (leads_duties pass_fuel 0 w (omega arith) fuel_is h) (λ u a. leads_spans u.spans u (λ r q. q) (visits_move t a).1)

  -- what passes come to, visits in some order come to
  pub passes_any_order : {k : ℕ} {w : Work} {o : Outcome} → WellFormed S w → Roomy w → Settles S k w o → SettlesInAnyOrder S k w o
  passes_any_order {k} {w} t h (rests {u = u} e) =
      let r : (w ≡ u) × Rest S k w = pass_rests S k w u e in
      subst (λ z. SettlesInAnyOrder S k w (goes z false)) r.0 (comes_to_rest no_visit (e ∙ ap unchanged (sym r.0)))
  passes_any_order {k} {w} t h (breaks e) = stop_of (subst (λ z. Leads S k w z) e (leads_pass w t h))
  passes_any_order {k} {w} t h (again {u = u} e s) =
      let a : Visits S k w u = visits_of (subst (λ z. Leads S k w z) e (leads_pass w t h)) in
      any_order_after a (passes_any_order (visits_move t a).1 (kept_visits S Roomy (roomy_kept S) a h) s)
