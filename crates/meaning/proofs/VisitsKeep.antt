-- A fact of works that the five effects keep, each visit keeps, and so does a pass.
use Rattle.std.proofs.Common.{ℕ, zero, suc, Bool, true, false, cond, List, [], ◌∷◌, ℤ, pos, negsuc, Some, None, Option, subst}
use Rattle.std.specs.List.{slice_get}
use Rattle.sheet.specs.declared.elements.Statement.{Statement}
use Rattle.sheet.specs.declared.elements.Statement.TheVariants.{True, False, Empty, More, Is, And, If, Next, Always, Halt, Len, Gets, Chop, For, While, Request}
use Rattle.value.specs.declared.end.End.{End}
use Rattle.value.specs.declared.end.End.TheVariants.{Unknown, On, Last}
use Rattle.value.specs.Values.{truth}
use Rattle.meaning.specs.declared.duties.Duty.{Duty}
use Rattle.meaning.specs.declared.duties.Opening.{Opening}
use Rattle.meaning.specs.declared.duties.Span.{Span}
use Rattle.meaning.specs.Intervals.{Setting, statement_at}
use Rattle.meaning.specs.Work.{Work, Outcome, stops, goes, also, and_then, plain, numbered}
use Rattle.meaning.specs.Effects.{give, put, add, carry, open_span}
use Rattle.meaning.specs.Rules.{known_for, once_known, when_on, chop_opening, for_opening, while_opening, halt_rule, len_rule, gets_rule, for_rule, while_rule, rule, visit, inherit_last, give_on, visit_opened, visit_span}
use Rattle.meaning.specs.Passes.{visit_or, visit_duties, visit_spans, pass_fuel, pass, Settles, rests, breaks, again}
use Rattle.meaning.specs.Visiting.{OneVisit, to_duty, to_span, Visits, no_visit, one_visit_more, SettlesInAnyOrder, comes_to_rest, meets_stop}
use Rattle.meaning.specs.AnyOrder.{Broken}

-- the fact holds of the work of an outcome, unless it is a stop, which is a contradiction or crowding then
abbrev pub OfWork : (Work → Type 0) → Outcome → Type 0
OfWork P (stops s) = Broken s
OfWork P (goes u c) = P u

-- a fact that what a visit does keeps
pub record Kept (S : Setting) (P : Work → Type 0) : Type 0 where
  pub gives : (p x : ℕ) (v : ℤ) (w : Work) → P w → OfWork P (give S p x v w)
  pub puts : (p : ℕ) (e : End) (s : ℕ) (w : Work) → P w → OfWork P (put p e s w)
  pub adds : (d : Duty) (w : Work) → P w → OfWork P (add d w)
  pub carries : (d : Duty) (w : Work) → P w → OfWork P (carry d w)
  pub opens : (g : Opening) (w : Work) → P w → OfWork P (open_span g w)

module _ (S : Setting) (P : Work → Type 0) (K : Kept S P) where
  kept_also : (c : Bool) (o : Outcome) → OfWork P o → OfWork P (also c o)
  kept_also c (stops s) h = h
  kept_also c (goes u b) h = h

  pub kept_then : (o : Outcome) (f : Work → Outcome) → OfWork P o → ((u : Work) → P u → OfWork P (f u)) → OfWork P (and_then o f)
  kept_then (stops s) f h g = h
  kept_then (goes u c) f h g = kept_also c (f u) (g u h)

  kept_once : (q : Option ℤ) (f : ℤ → Work → Outcome) (w : Work) → P w → ((v : ℤ) → OfWork P (f v w)) → OfWork P (once_known q f w)
  kept_once None f w h g = h
  kept_once (Some v) f w h g = g v

  pub kept_when : (c : End) (f : Work → Outcome) (w : Work) → P w → OfWork P (f w) → OfWork P (when_on c f w)
  kept_when Unknown f w h g = h
  kept_when On f w h g = g
  kept_when Last f w h g = h

  pub kept_truth : (b : Bool) (o q : Outcome) → OfWork P o → OfWork P q → OfWork P (cond b o q)
  kept_truth true o q h g = h
  kept_truth false o q h g = g

  pub kept_on : (p s : ℕ) (d : Duty) (w : Work) → P w → OfWork P (and_then (put p On s w) (carry d))
  kept_on p s d w h = kept_then (put p On s w) (carry d) (K.puts p On s w h) (K.carries d)

  pub kept_len : (d : Duty) (c : ℤ) (w : Work) → P w → OfWork P (len_rule d c w)
  kept_len d (pos zero) w h = K.puts d.statement Last d.span w h
  kept_len d (pos (suc n)) w h = kept_on d.statement d.span (numbered d.statement (pos n) d.span) w h
  kept_len d (negsuc n) w h = tt

  kept_for : (d : Duty) (p : ℕ) (c : ℤ) (w : Work) → P w → OfWork P (for_rule d p c w)
  kept_for d p (pos zero) w h = K.puts d.statement Last d.span w h
  kept_for d p (pos (suc n)) w h = K.opens (for_opening d p n) w h
  kept_for d p (negsuc n) w h = K.puts d.statement Last d.span w h

  kept_rule : (k : ℕ) (st : Statement) (o : Option ℤ) (d : Duty) (w : Work) → P w → OfWork P (rule S k st o d w)
  kept_rule k True o d w h = h
  kept_rule k False o d w h = tt
  kept_rule k Empty o d w h = K.puts d.statement Last d.span w h
  kept_rule k More o d w h = K.puts d.statement On d.span w h
  kept_rule k (Is x e) o d w h = kept_once (known_for S w d e) (give S d.statement x) w h (λ v. K.gives d.statement x v w h)
  kept_rule k (And p q) o d w h = kept_then (add (plain p d.span) w) (add (plain q d.span)) (K.adds (plain p d.span) w h) (K.adds (plain q d.span))
  kept_rule k (If e p q) o d w h = kept_once (known_for S w d e) (λ v. add (plain (cond (truth v) p q) d.span)) w h (λ v. K.adds (plain (cond (truth v) p q) d.span) w h)
  kept_rule k (Next p) o d w h = kept_on d.statement d.span (plain p d.span) w h
  kept_rule k (Always p) o d w h =
      kept_then (add (plain p d.span) w) (λ u. when_on (u.ends d.span) (carry d) u) (K.adds (plain p d.span) w h) (λ u g. kept_when (u.ends d.span) (carry d) u g (K.carries d u g))
  kept_rule k (Halt e) o d w h =
      kept_once (known_for S w d e) (halt_rule d) w h
      (λ v. kept_truth (truth v) (put d.statement Last d.span w) (and_then (put d.statement On d.span w) (carry d)) (K.puts d.statement Last d.span w h) (kept_on d.statement d.span d w h))
  kept_rule k (Len e) None d w h = kept_once (known_for S w d e) (len_rule d) w h (λ v. kept_len d v w h)
  kept_rule k (Len e) (Some c) d w h = kept_len d c w h
  kept_rule k (Gets x e) None d w h =
      kept_when (w.ends d.span) (once_known (known_for S w d e) (gets_rule d)) w h
      (kept_once (known_for S w d e) (gets_rule d) w h (λ v. kept_then (carry (numbered d.statement v d.span) w) (carry d) (K.carries (numbered d.statement v d.span) w h) (K.carries d)))
  kept_rule k (Gets x e) (Some v) d w h = K.gives d.statement x v w h
  kept_rule k (Chop p q) o d w h = K.opens (chop_opening d p q) w h
  kept_rule k (For e p) None d w h = kept_once (known_for S w d e) (λ c. add (numbered d.statement c d.span)) w h (λ c. K.adds (numbered d.statement c d.span) w h)
  kept_rule k (For e p) (Some c) d w h = kept_for d p c w h
  kept_rule k (While e p) o d w h =
      kept_once (known_for S w d e) (while_rule d p) w h
      (λ v. kept_truth (truth v) (open_span (while_opening d p) w) (put d.statement Last d.span w) (K.opens (while_opening d p) w h) (K.puts d.statement Last d.span w h))
  kept_rule k (Request x) o d w h = kept_once (S.readings x k) (give S d.statement x) w h (λ v. K.gives d.statement x v w h)

  pub kept_visit : (k : ℕ) (d : Duty) (w : Work) → P w → OfWork P (visit S k d w)
  kept_visit k d w h = kept_rule k (statement_at S d.statement) d.number d w h

  kept_or : (k : ℕ) (q : Option Duty) (f : Work → Outcome) (w : Work) → P w → ((u : Work) → P u → OfWork P (f u)) → OfWork P (visit_or S k q f w)
  kept_or k None f w h g = h
  kept_or k (Some d) f w h g = kept_then (visit S k d w) f (kept_visit k d w h) g

  kept_duties : (k f i : ℕ) (w : Work) → P w → OfWork P (visit_duties S k f i w)
  kept_duties k zero i w h = tt
  kept_duties k (suc f) i w h = kept_or k (slice_get w.duties i) (visit_duties S k f (suc i)) w h (kept_duties k f (suc i))

  kept_take : (c : End) (p s : ℕ) (w : Work) → P w → OfWork P (inherit_last c p s w)
  kept_take Unknown p s w h = h
  kept_take On p s w h = h
  kept_take Last p s w h = K.puts p Last s w h

  pub kept_hand : (c : End) (g : Opening) (w : Work) → P w → OfWork P (give_on c g w)
  kept_hand Unknown g w h = h
  kept_hand On g w h = K.puts g.by On g.follower.span w h
  kept_hand Last g w h = K.adds g.follower w h

  kept_opened : (q : Option Opening) (s : ℕ) (w : Work) → P w → OfWork P (visit_opened q s w)
  kept_opened None s w h = h
  kept_opened (Some g) s w h =
      kept_then (inherit_last (w.ends g.follower.span) g.by s w) (λ u. give_on (u.ends s) g u) (kept_take (w.ends g.follower.span) g.by s w h) (λ u. kept_hand (u.ends s) g u)

  kept_spans : (l : List Span) (w : Work) → P w → OfWork P (visit_spans l w)
  kept_spans [] w h = h
  kept_spans (t ∷ l) w h = kept_then (visit_span t w) (visit_spans l) (kept_opened t.opening t.serial w h) (kept_spans l)

  pub kept_pass : (k : ℕ) (w : Work) → P w → OfWork P (pass S k w)
  kept_pass k w h = kept_then (visit_duties S k pass_fuel 0 w) (λ u. visit_spans u.spans u) (kept_duties k pass_fuel 0 w h) (λ u. kept_spans u.spans u)

  kept_one_visit : {k : ℕ} {w : Work} {o : Outcome} → OneVisit S k w o → P w → OfWork P o
  kept_one_visit {k} {w} (to_duty d q e) h = subst (λ (z : Outcome). OfWork P z) e (kept_visit k d w h)
  kept_one_visit {k} {w} (to_span t q e) h = subst (λ (z : Outcome). OfWork P z) e (kept_opened t.opening t.serial w h)

  pub kept_visits : {k : ℕ} {w u : Work} → Visits S k w u → P w → P u
  kept_visits no_visit h = h
  kept_visits (one_visit_more s v) h = kept_one_visit v (kept_visits s h)

  -- and so do visits in any order
  pub kept_any_order : {k : ℕ} {w : Work} {o : Outcome} → SettlesInAnyOrder S k w o → P w → OfWork P o
  kept_any_order (comes_to_rest s e) h = kept_visits s h
  kept_any_order (meets_stop s v) h = kept_one_visit v (kept_visits s h)

  kept_settled : {k : ℕ} {w : Work} {o : Outcome} → Settles S k w o → P w → OfWork P o
  kept_settled {k} {w} (rests e) h = subst (λ (z : Outcome). OfWork P z) e (kept_pass k w h)
  kept_settled {k} {w} (breaks e) h = subst (λ (z : Outcome). OfWork P z) e (kept_pass k w h)
  kept_settled {k} {w} (again {u = u} e s) h = kept_settled s (subst (λ (z : Outcome). OfWork P z) e (kept_pass k w h))

  -- and so does settling
  pub kept_settles : (k : ℕ) (w u : Work) (c : Bool) → Settles S k w (goes u c) → P w → P u
  kept_settles k w u c s h = kept_settled s h
