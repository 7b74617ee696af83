-- The rules, a pass, settling and the step to the next state keep the work in order.
use Rattle.std.proofs.Common.{◌≡◌, ℕ, zero, suc, ◌<◌, Bool, true, false, cond, ltb, List, [], ◌∷◌, length, ℤ, pos, negsuc, Some, None, Option, sym, refl, ap, ◌∙◌, subst, arith}
use Rattle.std.specs.List.{slice_get}
use Rattle.std.proofs.lemmas.Bool.{ltb-true, and_parts}
use Rattle.sheet.specs.declared.elements.Statement.{Statement}
use Rattle.sheet.specs.declared.elements.Statement.TheVariants.{True, False, Empty, More, Is, And, If, Next, Always, Halt, Len, Gets, Chop, For, While, Request}
use Rattle.sheet.specs.Limits.{Limits, statement_ok}
use Rattle.value.specs.declared.end.End.{End}
use Rattle.value.specs.declared.end.End.TheVariants.{Unknown, On, Last}
use Rattle.value.specs.Values.{truth}
use Rattle.meaning.specs.declared.duties.Duty.{Duty}
use Rattle.meaning.specs.declared.duties.Opening.{Opening}
use Rattle.meaning.specs.declared.duties.Span.{Span}
use Rattle.meaning.specs.Intervals.{Setting, width, statement_at}
use Rattle.meaning.specs.Work.{Work, Outcome, stops, goes, and_then, plain, numbered}
use Rattle.meaning.specs.Effects.{give, put, add, carry}
use Rattle.meaning.specs.Rules.{known_for, once_known, when_on, chop_opening, for_opening, while_opening, halt_rule, len_rule, gets_rule, for_rule, while_rule, rule, inherit_last, give_on, visit_opened}
use Rattle.meaning.specs.Passes.{visit_or, visit_duties, visit_spans, pass_fuel, pass, Settles, rests, breaks, again}
use Rattle.meaning.specs.WellFormed.{◌∈◌, here, there, Present, Nested, WellFormed}
use Rattle.meaning.proofs.Lists.{nth_in}
use Rattle.meaning.proofs.KnownNumbers.{statement_with_ok}
use Rattle.meaning.proofs.Unchanged.{loud_stop}
use Rattle.meaning.proofs.Rest.{Rest, pass_rests}
use Rattle.meaning.proofs.Measure.{left, Less}
use Rattle.meaning.proofs.FiveChanges.{Grows, grows_refl, grows_trans, present_more, Moves, moves_stop, moves_on, Any, moves_any, moves_then, moves_stay, add_moves, carry_moves, put_moves, give_moves, open_moves}

-- a settled state: in order, grown from its start, and at rest
pub record Resting (S : Setting) (k : ℕ) (w u : Work) : Type 0 where
  pub grown : Grows w u
  pub well_formed : WellFormed S u
  pub rest : Rest S k u

module _ {S : Setting} where
  once_moves : (w : Work) (q : Option ℤ) (f : ℤ → Work → Outcome) → WellFormed S w → ((v : ℤ) → Moves S w Any (f v w)) → Moves S w Any (once_known q f w)
  once_moves w None f t h = moves_stay w t
  once_moves w (Some v) f t h = h v

  when_moves : (w : Work) (c : End) (f : Work → Outcome) → WellFormed S w → (c ≡ On → Moves S w Any (f w)) → Moves S w Any (when_on c f w)
  when_moves w Unknown f t h = moves_stay w t
  when_moves w On f t h = h refl
  when_moves w Last f t h = moves_stay w t

  truth_moves : (w : Work) (v : ℤ) (a b : Outcome) → Moves S w Any a → Moves S w Any b → Moves S w Any (cond (truth v) a b)
  truth_moves w (pos zero) a b h k = k
  truth_moves w (pos (suc n)) a b h k = h
  truth_moves w (negsuc n) a b h k = h

  -- put on, then carry
  on_carry : (p s : ℕ) (d : Duty) (w : Work) → d.span ≡ s → WellFormed S w → Present w.spans s → Moves S w Any (and_then (put p On s w) (carry d))
  on_carry p s d w e t l = moves_then (carry d) (put_moves p On s w t l) (λ u a b q. moves_any (carry_moves d u b (subst (λ z. Present u.spans z) (sym e) (present_more a l)) (ap u.ends e ∙ q)))

  len_moves : (d : Duty) (c : ℤ) (w : Work) → WellFormed S w → Present w.spans d.span → Moves S w Any (len_rule d c w)
  len_moves d (pos zero) w t l = moves_any (put_moves d.statement Last d.span w t l)
  len_moves d (pos (suc n)) w t l = on_carry d.statement d.span (numbered d.statement (pos n) d.span) w refl t l
  len_moves d (negsuc n) w t l = moves_stop

  for_moves : (d : Duty) (p : ℕ) (c : ℤ) (w : Work) → WellFormed S w → Present w.spans d.span → Moves S w Any (for_rule d p c w)
  for_moves d p (pos zero) w t l = moves_any (put_moves d.statement Last d.span w t l)
  for_moves d p (pos (suc n)) w t l = open_moves (for_opening d p n) w l t
  for_moves d p (negsuc n) w t l = moves_any (put_moves d.statement Last d.span w t l)

  pub rule_moves : (k m s : ℕ) (d : Duty) (w : Work) (st : Statement) (o : Option ℤ) → statement_ok (width S) m s st ≡ true → WellFormed S w → Present w.spans d.span → Moves S w Any (rule S k st o d w)
  rule_moves k m s d w True o h t l = moves_stay w t
  rule_moves k m s d w False o h t l = moves_stop
  rule_moves k m s d w Empty o h t l = moves_any (put_moves d.statement Last d.span w t l)
  rule_moves k m s d w More o h t l = moves_any (put_moves d.statement On d.span w t l)
  rule_moves k m s d w (Is x e) o h t l = once_moves w (known_for S w d e) (give S d.statement x) t (λ v. give_moves d.statement x v w (ltb-true x (width S) (and_parts (ltb x (width S)) (ltb e m) h).0) t)
  rule_moves k m s d w (And p q) o h t l = moves_then (add (plain q d.span)) (add_moves (plain p d.span) w t l) (λ u a b _. add_moves (plain q d.span) u b (present_more a l))
  rule_moves k m s d w (If e p q) o h t l = once_moves w (known_for S w d e) (λ v. add (plain (cond (truth v) p q) d.span)) t (λ v. add_moves (plain (cond (truth v) p q) d.span) w t l)
  rule_moves k m s d w (Next p) o h t l = on_carry d.statement d.span (plain p d.span) w refl t l
  rule_moves k m s d w (Always p) o h t l = moves_then (λ u. when_on (u.ends d.span) (carry d) u) (add_moves (plain p d.span) w t l) (λ u a b _. when_moves u (u.ends d.span) (carry d) b (λ e. moves_any (carry_moves d u b (present_more a l) e)))
  rule_moves k m s d w (Halt e) o h t l = once_moves w (known_for S w d e) (halt_rule d) t (λ v. truth_moves w v _ _ (moves_any (put_moves d.statement Last d.span w t l)) (on_carry d.statement d.span d w refl t l))
  rule_moves k m s d w (Len e) None h t l = once_moves w (known_for S w d e) (len_rule d) t (λ v. len_moves d v w t l)
  rule_moves k m s d w (Len e) (Some c) h t l = len_moves d c w t l
  rule_moves k m s d w (Gets x e) None h t l = when_moves w (w.ends d.span) (once_known (known_for S w d e) (gets_rule d)) t (λ o. once_moves w (known_for S w d e) (gets_rule d) t (λ v. moves_then (carry d) (carry_moves (numbered d.statement v d.span) w t l o) (λ u a b p. moves_any (carry_moves d u b (present_more a l) p))))
  rule_moves k m s d w (Gets x e) (Some v) h t l = give_moves d.statement x v w (ltb-true x (width S) (and_parts (ltb x (width S)) (ltb e m) h).0) t
  rule_moves k m s d w (Chop p q) o h t l = open_moves (chop_opening d p q) w l t
  rule_moves k m s d w (For e p) None h t l = once_moves w (known_for S w d e) (λ c. add (numbered d.statement c d.span)) t (λ c. add_moves (numbered d.statement c d.span) w t l)
  rule_moves k m s d w (For e p) (Some c) h t l = for_moves d p c w t l
  rule_moves k m s d w (While e p) o h t l = once_moves w (known_for S w d e) (while_rule d p) t (λ v. truth_moves w v _ _ (open_moves (while_opening d p) w l t) (moves_any (put_moves d.statement Last d.span w t l)))
  rule_moves k m s d w (Request x) o h t l = once_moves w (S.readings x k) (give S d.statement x) t (λ v. give_moves d.statement x v w (ltb-true x (width S) h) t)

  take_moves : (c : End) (p s : ℕ) (w : Work) → WellFormed S w → Present w.spans s → Moves S w Any (inherit_last c p s w)
  take_moves Unknown p s w t l = moves_stay w t
  take_moves On p s w t l = moves_stay w t
  take_moves Last p s w t l = moves_any (put_moves p Last s w t l)

  hand_moves : (c : End) (g : Opening) (w : Work) → WellFormed S w → Present w.spans g.follower.span → Moves S w Any (give_on c g w)
  hand_moves Unknown g w t l = moves_stay w t
  hand_moves On g w t l = moves_any (put_moves g.by On g.follower.span w t l)
  hand_moves Last g w t l = add_moves g.follower w t l

  -- a visit to an opened span moves to a work in order
  pub opened_moves : (q : Option Opening) (s : ℕ) (w : Work) → WellFormed S w → Present w.spans s → Nested w.spans s q → Moves S w Any (visit_opened q s w)
  opened_moves None s w t i l = moves_stay w t
  opened_moves (Some g) s w t i l =
      moves_then (λ u. give_on (u.ends s) g u) (take_moves (w.ends g.follower.span) g.by s w t i) (λ u a b _. hand_moves (u.ends s) g u b (present_more a l.1))

module _ (S : Setting) (L : Limits S.sheet) where
  or_moves : (k : ℕ) (q : Option Duty) (f : Work → Outcome) (w : Work) → ((d : Duty) → q ≡ Some d → d ∈ w.duties) → WellFormed S w → ((u : Work) → WellFormed S u → Moves S u Any (f u)) → Moves S w Any (visit_or S k q f w)
  or_moves k None f w i t h = moves_stay w t
  or_moves k (Some d) f w i t h = moves_then f (rule_moves k (length S.sheet.expressions) d.statement d w (statement_at S d.statement) d.number (statement_with_ok S L d.statement) t (t.duty_present d (i d refl))) (λ u a b _. h u b)

  pub duties_moves : (k f i : ℕ) (w : Work) → WellFormed S w → Moves S w Any (visit_duties S k f i w)
  duties_moves k zero i w t = moves_stop
  duties_moves k (suc f) i w t = or_moves k (slice_get w.duties i) (visit_duties S k f (suc i)) w (λ d e. nth_in w.duties i d e) t (duties_moves k f (suc i))

  spans_moves : (l : List Span) (w : Work) → ((t : Span) → t ∈ l → t ∈ w.spans) → WellFormed S w → Moves S w Any (visit_spans l w)
  spans_moves [] w i t = moves_stay w t
  spans_moves (x ∷ l) w i t = moves_then (visit_spans l) (opened_moves x.opening x.serial w t (record { span = x; inside = i x (here refl); named = refl }) (t.nested x (i x (here refl)))) (λ u a b _. spans_moves l u (λ r q. a.more_spans r (i r (there q))) b)

  pub pass_moves : (k : ℕ) (w : Work) → WellFormed S w → Moves S w Any (pass S k w)
  pass_moves k w t = moves_then (λ u. visit_spans u.spans u) (duties_moves k pass_fuel 0 w t) (λ u a b _. spans_moves u.spans u (λ r q. q) b)

  pub grown_of : {w u : Work} {c : Bool} → Moves S w Any (goes u c) → Grows w u × WellFormed S u × Less (width S) c u w
  grown_of (moves_on g l t p) = (g, t, l)

  pub settles_rest : (k : ℕ) (w : Work) (o : Outcome) (u : Work) → Settles S k w o → o ≡ goes u false → WellFormed S w → Resting S k w u
  settles_rest k w o u (rests {u = v} e) p t =
      let r : (w ≡ u) × Rest S k w = pass_rests S k w u (e ∙ p) in
      record { grown = subst (λ z. Grows w z) r.0 (grows_refl w); well_formed = subst (λ z. WellFormed S z) r.0 t; rest = subst (λ z. Rest S k z) r.0 r.1 }
  settles_rest k w o u (breaks e) p t = loud_stop _ u p
  settles_rest k w o u (again {u = v} e s) p t =
      let b : Grows w v × WellFormed S v × Less (width S) true v w = grown_of (subst (λ z. Moves S w Any z) e (pass_moves k w t)) in
      let r : Resting S k v u = settles_rest k v o u s p b.1 in
      record { grown = grows_trans b.0 r.grown; well_formed = r.well_formed; rest = r.rest }

  -- settling comes to an end
  total_below : (k b : ℕ) (w : Work) → left (width S) w < b → WellFormed S w → (o : Outcome) × Settles S k w o
  total_below k zero w l t = absurd (omega arith)
  total_below k (suc b) w l t = by (pass S k w) refl (total_below k b)
    where
      by : (o : Outcome) → pass S k w ≡ o → ((u : Work) → left (width S) u < b → WellFormed S u → (o : Outcome) × Settles S k u o) → (o : Outcome) × Settles S k w o
      by (stops s) e ih = (stops s, breaks e)
      by (goes u false) e ih = (goes u false, rests e)
      by (goes u true) e ih =
          let g : Grows w u × WellFormed S u × Less (width S) true u w = grown_of (subst (λ z. Moves S w Any z) e (pass_moves k w t)) in
          let r : (o : Outcome) × Settles S k u o = ih u (omega (arith, g.2.lt refl)) g.1 in
          (r.0, again e r.1)

  pub settles_total : (k : ℕ) (w : Work) → WellFormed S w → (o : Outcome) × Settles S k w o
  settles_total k w t = total_below k (suc (left (width S) w)) w (omega arith) t
