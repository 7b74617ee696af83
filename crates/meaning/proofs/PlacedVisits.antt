-- Visits, in any order, keep a work placed in whatever is closed under the rules.
use Rattle.std.proofs.Common.{◌≡◌, ℕ, zero, suc, ◌<◌, ◌≢◌, cond, ℤ, pos, negsuc, Some, None, Option, Bool, false, sym, refl, subst}
use Rattle.sheet.specs.declared.elements.Statement.{Statement}
use Rattle.sheet.specs.declared.elements.Statement.TheVariants.{True, False, Empty, More, Is, And, If, Next, Always, Halt, Len, Gets, Chop, For, While, Request}
use Rattle.value.specs.declared.end.End.{End}
use Rattle.value.specs.declared.end.End.TheVariants.{Unknown, On, Last}
use Rattle.value.specs.Values.{truth}
use Rattle.meaning.specs.declared.duties.Duty.{Duty}
use Rattle.meaning.specs.declared.duties.Opening.{Opening}
use Rattle.meaning.specs.declared.duties.Span.{Span}
use Rattle.meaning.specs.Intervals.{Setting, statement_at}
use Rattle.meaning.specs.Work.{Work, Outcome, goes, and_then, plain, numbered}
use Rattle.meaning.specs.Effects.{give, put, add, carry}
use Rattle.meaning.specs.Rules.{known_for, once_known, when_on, chop_opening, for_opening, while_opening, halt_rule, len_rule, gets_rule, for_rule, while_rule, rule, visit, inherit_last, give_on, visit_opened, visit_span}
use Rattle.meaning.specs.Visiting.{OneVisit, to_duty, to_span, Visits, no_visit, one_visit_more, SettlesInAnyOrder, comes_to_rest, meets_stop}
use Rattle.meaning.specs.WellFormed.{◌∈◌}
use Rattle.meaning.proofs.Tests.{truth_yes, truth_no, zero_or_not}
use Rattle.meaning.specs.AnyOrder.{duty_renamed, opening_renamed, opened_renamed}
use Rattle.meaning.proofs.Grants.{Grants, Shown, LenAsks, ForAsks, SpanAsks, Asks, OuterBelow, PlacedIn, Lawful}
use Rattle.meaning.proofs.PlacedEffects.{KeepsPlaces, kept, FindsPlaces, finds_clash, finds, keep_then, finds_kept, stay, finds_after, keep_give, keep_put, keep_add, keep_carry, finds_open}

finds_quietly : {G : Grants} {n : ℕ} {φ : ℕ → ℕ} {u : Work} {c : Bool} → FindsPlaces G n φ (goes u c) → FindsPlaces G n φ (goes u false)
finds_quietly (finds m ψ l a Y) = finds m ψ l a Y

module _ {S : Setting} {k : ℕ} {G : Grants} (A : Lawful S k G) where
  module _ {n : ℕ} {φ : ℕ → ℕ} where
    finds_once : (q : Option ℤ) (f : ℤ → Work → Outcome) (w : Work) → PlacedIn G n φ w → ((v : ℤ) → q ≡ Some v → FindsPlaces G n φ (f v w)) → FindsPlaces G n φ (once_known q f w)
    finds_once None f w X h = stay X
    finds_once (Some v) f w X h = h v refl

    keep_when : (c : End) (s : ℕ) (f : Work → Outcome) (u : Work) → G.at s c → (G.at s On → KeepsPlaces G n φ (f u)) → PlacedIn G n φ u → KeepsPlaces G n φ (when_on c f u)
    keep_when Unknown s f u c h X = kept X
    keep_when On s f u c h X = h c
    keep_when Last s f u c h X = kept X

    finds_when : (c : End) (s : ℕ) (f : Work → Outcome) (u : Work) → G.at s c → (G.at s On → FindsPlaces G n φ (f u)) → PlacedIn G n φ u → FindsPlaces G n φ (when_on c f u)
    finds_when Unknown s f u c h X = stay X
    finds_when On s f u c h X = h c
    finds_when Last s f u c h X = stay X

    finds_truth : (v : ℤ) (a b : Outcome) → (v ≢ pos 0 → FindsPlaces G n φ a) → (v ≡ pos 0 → FindsPlaces G n φ b) → FindsPlaces G n φ (cond (truth v) a b)
    finds_truth v a b h₁ h₂ = by (zero_or_not v)
      where
        by : Dec (v ≡ pos 0) → FindsPlaces G n φ (cond (truth v) a b)
        by (yes z) = subst (λ o. FindsPlaces G n φ o) (sym (truth_no v a b z)) (h₂ z)
        by (no z) = subst (λ o. FindsPlaces G n φ o) (sym (truth_yes v a b z)) (h₁ z)

    -- a number that a placed work shows is one that is granted
    shown : (w : Work) (d : Duty) (e : ℕ) (v : ℤ) → PlacedIn G n φ w → known_for S w d e ≡ Some v → Shown S G (φ d.span) e v
    shown w d e v X h = record { numbers = w.known; end = w.ends d.span; right = X.values; ending = X.ends d.span; gives = h }

    -- put on, then carry
    finds_on : (d c : Duty) (w : Work) → c.span < n → G.at (φ d.span) On × G.next (duty_renamed φ c) → PlacedIn G n φ w → FindsPlaces G n φ (and_then (put d.statement On d.span w) (carry c))
    finds_on d c w l h X = finds_kept (keep_then (carry c) (keep_put A d.statement On d.span w h.0 X) (λ u Y. keep_carry A c u (l, h.1) Y))

    finds_last : (d : Duty) (w : Work) → G.at (φ d.span) Last → PlacedIn G n φ w → FindsPlaces G n φ (put d.statement Last d.span w)
    finds_last d w h X = finds_kept (keep_put A d.statement Last d.span w h X)

    finds_len : (d : Duty) (c : ℤ) (w : Work) → d.span < n → LenAsks G (duty_renamed φ d) c → PlacedIn G n φ w → FindsPlaces G n φ (len_rule d c w)
    finds_len d (pos zero) w l h X = finds_last d w h X
    finds_len d (pos (suc m)) w l h X = finds_on d (numbered d.statement (pos m) d.span) w l h X
    finds_len d (negsuc m) w l h X = finds_clash h

    finds_for : (d : Duty) (p : ℕ) (c : ℤ) (w : Work) → d.span < n → ForAsks G (duty_renamed φ d) p c → PlacedIn G n φ w → FindsPlaces G n φ (for_rule d p c w)
    finds_for d p (pos zero) w l h X = finds_last d w h X
    finds_for d p (pos (suc m)) w l h X = finds_open A w (for_opening d p m) X l h
    finds_for d p (negsuc m) w l h X = finds_last d w h X

    -- a rule does what its duty asks
    pub rule_finds : (w : Work) (d : Duty) (st : Statement) (o : Option ℤ) → PlacedIn G n φ w → d.span < n → d.number ≡ o → Asks S k G (duty_renamed φ d) st o → FindsPlaces G n φ (rule S k st o d w)
    rule_finds w d True o X l a h = stay X
    rule_finds w d False o X l a h = finds_clash h
    rule_finds w d Empty o X l a h = finds_last d w h X
    rule_finds w d More o X l a h = finds_kept (keep_put A d.statement On d.span w h X)
    rule_finds w d (Is x e) o X l a h = finds_once (known_for S w d e) (give S d.statement x) w X (λ v q. finds_kept (keep_give A d.statement x v w (h v (shown w d e v X q)) X))
    rule_finds w d (And p q) o X l a h = finds_kept (keep_then (add (plain q d.span)) (keep_add A (plain p d.span) w (l, h.0) X) (λ u Y. keep_add A (plain q d.span) u (l, h.1) Y))
    rule_finds w d (If e p q) o X l a h =
        finds_once (known_for S w d e) (λ v. add (plain (cond (truth v) p q) d.span)) w X (λ v r. finds_kept (keep_add A (plain (cond (truth v) p q) d.span) w (l, h v (shown w d e v X r)) X))
    rule_finds w d (Next p) o X l a h = finds_on d (plain p d.span) w l h X
    rule_finds w d (Always p) o X l a h =
        finds_kept (keep_then (λ u. when_on (u.ends d.span) (carry d) u) (keep_add A (plain p d.span) w (l, h.0) X)
        (λ u Y. keep_when (u.ends d.span) (φ d.span) (carry d) u (Y.ends d.span) (λ i. keep_carry A d u (l, h.1 i) Y) Y))
    rule_finds w d (Halt e) o X l a h =
        finds_once (known_for S w d e) (halt_rule d) w X
        (λ v r. let y = h v (shown w d e v X r) in finds_truth v (put d.statement Last d.span w) (and_then (put d.statement On d.span w) (carry d)) (λ z. finds_last d w (y.0 z) X) (λ z. finds_on d d w l (y.1 z) X))
    rule_finds w d (Len e) None X l a h = finds_once (known_for S w d e) (len_rule d) w X (λ v r. finds_len d v w l (h v (shown w d e v X r)) X)
    rule_finds w d (Len e) (Some c) X l a h = finds_len d c w l h X
    rule_finds w d (Gets x e) None X l a h =
        finds_when (w.ends d.span) (φ d.span) (once_known (known_for S w d e) (gets_rule d)) w (X.ends d.span)
        (λ i. finds_once (known_for S w d e) (gets_rule d) w X
        (λ v r. let y = h i v (shown w d e v X r) in finds_kept (keep_then (carry d) (keep_carry A (numbered d.statement v d.span) w (l, y.0) X) (λ u Y. keep_carry A d u (l, y.1) Y)))) X
    rule_finds w d (Gets x e) (Some v) X l a h = finds_kept (keep_give A d.statement x v w h X)
    rule_finds w d (Chop p q) o X l a h = finds_open A w (chop_opening d p q) X l h
    rule_finds w d (For e p) None X l a h =
        finds_once (known_for S w d e) (λ c. add (numbered d.statement c d.span)) w X (λ v r. finds_kept (keep_add A (numbered d.statement v d.span) w (l, h v (shown w d e v X r)) X))
    rule_finds w d (For e p) (Some c) X l a h = finds_for d p c w l h X
    rule_finds w d (While e p) o X l a h =
        finds_once (known_for S w d e) (while_rule d p) w X
        (λ v r. let y = h v (shown w d e v X r) in finds_truth v _ _ (λ z. finds_open A w (while_opening d p) X l (y.0 z)) (λ z. finds_last d w (y.1 z) X))
    rule_finds w d (Request x) o X l a h = finds_once (S.readings x k) (give S d.statement x) w X (λ v r. finds_kept (keep_give A d.statement x v w (h v r) X))

    pub visit_finds : (d : Duty) (w : Work) → d ∈ w.duties → PlacedIn G n φ w → FindsPlaces G n φ (visit S k d w)
    visit_finds d w q X = let r = X.duties d q in rule_finds w d (statement_at S d.statement) d.number X r.0 refl (A.of_duty (duty_renamed φ d) r.1)

    keep_take : (c : End) (p s o : ℕ) (w : Work) → G.at o c → (G.at o Last → G.at (φ s) Last) → PlacedIn G n φ w → KeepsPlaces G n φ (inherit_last c p s w)
    keep_take Unknown p s o w c h X = kept X
    keep_take On p s o w c h X = kept X
    keep_take Last p s o w c h X = keep_put A p Last s w (h c) X

    keep_hand : (c : End) (s : ℕ) (g : Opening) (w : Work) → G.at (φ s) c → g.follower.span < n → SpanAsks G (φ s) (opening_renamed φ g) → PlacedIn G n φ w → KeepsPlaces G n φ (give_on c g w)
    keep_hand Unknown s g w c l h X = kept X
    keep_hand On s g w c l h X = keep_put A g.by On g.follower.span w (h.0 c) X
    keep_hand Last s g w c l h X = keep_add A g.follower w (l, h.1 c) X

    keep_opened : (f : Bool) (q : Option Opening) (s : ℕ) (w : Work) → OuterBelow n q → G.held (record { serial = φ s; opening = opened_renamed φ q; fresh = f }) → PlacedIn G n φ w → KeepsPlaces G n φ (visit_opened q s w)
    keep_opened f None s w l h X = kept X
    keep_opened f (Some g) s w l h X =
        let r = A.of_span (φ s) (opening_renamed φ g) f h in
        keep_then (λ u. give_on (u.ends s) g u) (keep_take (w.ends g.follower.span) g.by s (φ g.follower.span) w (X.ends g.follower.span) r.2 X)
        (λ u Y. keep_hand (u.ends s) s g u (Y.ends s) l r Y)

    pub span_finds : (t : Span) (w : Work) → t ∈ w.spans → PlacedIn G n φ w → FindsPlaces G n φ (visit_span t w)
    span_finds t w q X = let r = X.spans t q in finds_kept (keep_opened t.fresh t.opening t.serial w r.1 r.2 X)

  one_visit_finds : {n : ℕ} {φ : ℕ → ℕ} {w : Work} {o : Outcome} → OneVisit S k w o → PlacedIn G n φ w → FindsPlaces G n φ o
  one_visit_finds {n} {φ} {w} (to_duty d q e) X = subst (λ o. FindsPlaces G n φ o) e (visit_finds d w q X)
  one_visit_finds {n} {φ} {w} (to_span t q e) X = subst (λ o. FindsPlaces G n φ o) e (span_finds t w q X)

  finds_next : {n : ℕ} {φ : ℕ → ℕ} {o : Outcome} {u : Work} {c : Bool} → FindsPlaces G n φ (goes u c) → ((m : ℕ) (ψ : ℕ → ℕ) → PlacedIn G m ψ u → FindsPlaces G m ψ o) → FindsPlaces G n φ o
  finds_next (finds m ψ l a Y) h = finds_after l a (h m ψ Y)

  visits_find : {n : ℕ} {φ : ℕ → ℕ} {w u : Work} → Visits S k w u → PlacedIn G n φ w → FindsPlaces G n φ (goes u false)
  visits_find no_visit X = stay X
  visits_find (one_visit_more s v) X = finds_next (visits_find s X) (λ m ψ Y. finds_quietly (one_visit_finds v Y))

  -- visits in any order keep a work placed
  pub any_order_finds : {n : ℕ} {φ : ℕ → ℕ} {w : Work} {o : Outcome} → SettlesInAnyOrder S k w o → PlacedIn G n φ w → FindsPlaces G n φ o
  any_order_finds (comes_to_rest s e) X = visits_find s X
  any_order_finds (meets_stop s v) X = finds_next (visits_find s X) (λ m ψ Y. one_visit_finds v Y)
