-- Two rests that lie inside each other are the same but for order: they know the same, leave the same open, and so do the works that the next states start with.
use Rattle.std.proofs.Common.{◌≡◌, ℕ, zero, suc, ◌<◌, Bool, true, false, cond, List, [], ◌∷◌, map, length, ℤ, pos, Some, None, Option, ◌⊎◌, inl, inr, sym, refl, ap, ◌∙◌, subst, arith}
use Rattle.std.specs.List.{range_with_len}
use Rattle.std.specs.Option.{unwrap_or}
use Rattle.std.proofs.lemmas.Bool.{and_from}
use Rattle.value.specs.declared.end.End.{End}
use Rattle.value.specs.declared.end.End.TheVariants.{Unknown, On, Last}
use Rattle.meaning.specs.declared.duties.Duty.{Duty}
use Rattle.meaning.specs.declared.duties.LeftOpen.{LeftOpen}
use Rattle.meaning.specs.declared.duties.Opening.{Opening}
use Rattle.meaning.specs.declared.duties.Span.{Span}
use Rattle.meaning.specs.Intervals.{Setting}
use Rattle.meaning.specs.Work.{Work}
use Rattle.meaning.specs.Runs.{going_on, next_work, is_ended, all_ended, lowest_unknown, left_open, state_of}
use Rattle.meaning.specs.WellFormed.{◌∈◌, here, there, EndIs, Present, Nested, WellFormed, IsEnded}
use Rattle.meaning.specs.AnyOrder.{duty_renamed, opening_renamed, opened_renamed, span_renamed, SameButForOrder}
use Rattle.meaning.proofs.SettledStates.{all_ended_says}
use Rattle.meaning.proofs.RunsInSomeOrder.{Stays, going_in, stale, in_going, present_going}
use Rattle.meaning.proofs.PartOf.{PartOfWork, Distinct, Neat, Like, Twins}
use Rattle.meaning.proofs.Distinct.{permuted, fits_in}
use Rattle.meaning.proofs.Starts.{Start, Born, SettledFrom, next_start}
use Rattle.meaning.proofs.InRest.{send, send_held}

-- ---- works whose entries go there and back

-- a work in order, no entry of which comes twice
pub record Orderly (S : Setting) (w : Work) : Type 0 where
  pub well_formed : WellFormed S w
  pub neat : Neat w
  pub duties : Distinct w.duties

-- all that w holds, v does too, where φ renames the serials of w, and ψ leads back
pub record Sent (φ ψ : ℕ → ℕ) (w v : Work) : Type 0 where
  pub spans : (t : Span) → t ∈ w.spans → span_renamed φ t ∈ v.spans
  pub duties : (d : Duty) → d ∈ w.duties → duty_renamed φ d ∈ v.duties
  pub later : (d : Duty) → d ∈ w.later → duty_renamed φ d ∈ v.later
  pub back : (s : ℕ) → Present w.spans s → ψ (φ s) ≡ s

module _ {S : Setting} {φ ψ : ℕ → ℕ} {w v : Work} (A : Orderly S w) (H : Sent φ ψ w v) where
  duty_back : (d : Duty) → Present w.spans d.span → duty_renamed ψ (duty_renamed φ d) ≡ d
  duty_back d l = λ i. record { statement = d.statement; number = d.number; span = H.back d.span l i }

  opened_back : (s : ℕ) (q : Option Opening) → Nested w.spans s q → opened_renamed ψ (opened_renamed φ q) ≡ q
  opened_back s None n = refl
  opened_back s (Some g) n =
      let e : duty_renamed ψ (duty_renamed φ g.follower) ≡ g.follower = duty_back g.follower n.1 in
      λ i. Some (record { by = g.by; body = g.body; starts = g.starts; follower = e i })

  span_back : (t : Span) → t ∈ w.spans → span_renamed ψ (span_renamed φ t) ≡ t
  span_back t q =
      let a : ψ (φ t.serial) ≡ t.serial = H.back t.serial (record { span = t; inside = q; named = refl }) in
      let b : opened_renamed ψ (opened_renamed φ t.opening) ≡ t.opening = opened_back t.serial t.opening (A.well_formed.nested t q) in
      λ i. record { serial = a i; opening = b i; fresh = t.fresh }

one_of : {S : Setting} {φ ψ : ℕ → ℕ} {w v : Work} → Orderly S w → Sent φ ψ w v → (t r : Span) → t ∈ w.spans → r ∈ w.spans → span_renamed φ t ≡ span_renamed φ r → t ≡ r
one_of {φ = φ} {ψ = ψ} A H t r p q e = sym (span_back A H t p) ∙ ap (span_renamed ψ) e ∙ span_back A H r q

pub same_but_for_order : {S T : Setting} {φ ψ : ℕ → ℕ} {w v : Work} → Orderly S w → Orderly T v → Sent φ ψ w v → Sent ψ φ v w → φ 0 ≡ 0
    → ((x : ℕ) → w.known x ≡ v.known x) → ((s : ℕ) → Present w.spans s → w.ends s ≡ v.ends (φ s)) → w.next ≡ v.next → SameButForOrder w v
same_but_for_order {φ = φ} {ψ = ψ} {w = w} {v = v} A B H I z k e x = record {
  rename = φ;
  back = ψ;
  undone = H.back;
  whole = z;
  known = k;
  ends = e;
  spans = permuted (span_renamed φ) (span_renamed ψ) w.spans v.spans A.neat.spans B.neat.spans H.spans I.spans (span_back A H) (span_back B I);
  duties = permuted (duty_renamed φ) (duty_renamed ψ) w.duties v.duties A.duties B.duties H.duties I.duties (λ d q. duty_back A H d (A.well_formed.duty_present d q)) (λ d q. duty_back B I d (B.well_formed.duty_present d q));
  later = permuted (duty_renamed φ) (duty_renamed ψ) w.later v.later A.neat.later B.neat.later H.later I.later (λ d q. duty_back A H d (A.well_formed.later_present d q).0) (λ d q. duty_back B I d (B.well_formed.later_present d q).0);
  owed = A.well_formed.duty_present;
  carried = λ d q. (A.well_formed.later_present d q).0;
  outer = λ t g q o. (subst (λ z. Nested w.spans t.serial z) o (A.well_formed.nested t q)).1;
  next = x;
}

-- ---- two works that a state starts with

-- two works with which a state of two runs starts
pub record Paired (S T : Setting) (w v : Work) : Type 0 where
  pub one : Start S w
  pub other : Start T v
  pub twins : Twins w v
  pub next : w.next ≡ v.next

start_orderly : {S : Setting} {w : Work} → Start S w → Orderly S w
start_orderly A = record { well_formed = A.well_formed; neat = A.neat; duties = A.duties }

nothing_later : {S : Setting} {w : Work} {d : Duty} {P : Type 0} → Start S w → d ∈ w.later → P
nothing_later {d = d} A q = absurd (elim (subst (λ l. d ∈ l) A.nothing q) [ ])

like_sent : {S : Setting} {φ ψ : ℕ → ℕ} {w v : Work} → Start S w → Like φ ψ w v → Sent φ ψ w v
like_sent A H = record { spans = H.spans; duties = H.duties; later = λ d q. nothing_later A q; back = H.back }

pub starts_same : {S T : Setting} {w v : Work} → Paired S T w v → SameButForOrder w v
starts_same P =
    same_but_for_order (start_orderly P.one) (start_orderly P.other) (like_sent P.one P.twins.there) (like_sent P.other P.twins.back) P.twins.there.whole
    (λ x. P.one.unknown x ∙ sym (P.other.unknown x)) (λ s l. P.one.free s ∙ sym (P.other.free (P.twins.φ s))) P.next

-- ---- two rests

-- the rest u, which began with w, lies in the rest v by χ; v, which began with b, lies in u by ω; both agree with the names at the start
pub record Mutual (S T : Setting) (k : ℕ) (w b u v : Work) : Type 0 where
  pub starts : Paired S T w b
  pub from_one : SettledFrom S k w u
  pub from_other : SettledFrom T k b v
  pub duties_one : Distinct u.duties
  pub duties_other : Distinct v.duties
  pub χ : ℕ → ℕ
  pub ω : ℕ → ℕ
  pub there : PartOfWork χ u v
  pub back : PartOfWork ω v u
  pub as_there : (s : ℕ) → s < w.next → χ s ≡ send w.spans v.next starts.twins.φ s
  pub as_back : (s : ℕ) → s < b.next → ω s ≡ send b.spans u.next starts.twins.ψ s

abbrev pub paired_back : {S T : Setting} {w v : Work} → Paired S T w v → Paired T S v w
paired_back P = record { one = P.other; other = P.one; twins = record { φ = P.twins.ψ; ψ = P.twins.φ; there = P.twins.back; back = P.twins.there }; next = sym P.next }

abbrev mutual_back : {S T : Setting} {k : ℕ} {w b u v : Work} → Mutual S T k w b u v → Mutual T S k b w v u
mutual_back M = record {
  starts = paired_back M.starts;
  from_one = M.from_other;
  from_other = M.from_one;
  duties_one = M.duties_other;
  duties_other = M.duties_one;
  χ = M.ω;
  ω = M.χ;
  there = M.back;
  back = M.there;
  as_there = M.as_back;
  as_back = M.as_there;
}

module _ {S T : Setting} {k : ℕ} {w b u v : Work} (M : Mutual S T k w b u v) where
  start_below : {R : Setting} {l : Work} {s : ℕ} → Start R l → Present l.spans s → s < l.next
  start_below {l = l} A h = subst (λ z. z < l.next) h.named (A.well_formed.few_serials h.span h.inside)

  -- a serial of the start goes there as at the start
  go_old : (s : ℕ) → Present w.spans s → M.χ s ≡ M.starts.twins.φ s
  go_old s h = M.as_there s (start_below M.starts.one h) ∙ send_held w.spans v.next M.starts.twins.φ s h

  back_old : (s : ℕ) → Present w.spans s → M.ω (M.χ s) ≡ s
  back_old s h =
      let H : Like M.starts.twins.φ M.starts.twins.ψ w b = M.starts.twins.there in
      let c : Present b.spans (M.starts.twins.φ s) = record { span = span_renamed M.starts.twins.φ h.span; inside = H.spans h.span h.inside; named = ap M.starts.twins.φ h.named } in
      ap M.ω (go_old s h) ∙ M.as_back (M.starts.twins.φ s) (start_below M.starts.other c) ∙ send_held b.spans u.next M.starts.twins.ψ (M.starts.twins.φ s) c ∙ H.back s h

  -- there and back is the same serial, by the serials of the outer spans
  come_back : (m s : ℕ) → s < m → Present u.spans s → M.ω (M.χ s) ≡ s
  come_back zero s l h = absurd (omega arith)
  come_back (suc m) s l h = by h.span h.inside h.named (M.from_one.since h.span h.inside) (λ r i c. come_back m r (omega arith) c)
    where
      by : (t : Span) → t ∈ u.spans → t.serial ≡ s → (t ∈ w.spans) ⊎ Born t → ((r : ℕ) → r < s → Present u.spans r → M.ω (M.χ r) ≡ r) → M.ω (M.χ s) ≡ s
      by t q e (inl o) ih = back_old s (record { span = t; inside = o; named = e })
      by t q e (inr n) ih =
          let g : Opening = n.how in
          let nest : (g.follower.span < t.serial) × Present u.spans g.follower.span = subst (λ z. Nested u.spans t.serial z) n.opened (M.from_one.resting.well_formed.nested t q) in
          let c : M.ω (M.χ g.follower.span) ≡ g.follower.span = ih g.follower.span (omega (arith, nest.0, e)) nest.1 in
          let r : span_renamed M.ω (span_renamed M.χ t) ∈ u.spans = M.back.spans (span_renamed M.χ t) (M.there.spans t q) in
          let again : opening_renamed M.ω (opening_renamed M.χ g) ≡ g = λ i. record { by = g.by; body = g.body; starts = g.starts; follower = record { statement = g.follower.statement; number = g.follower.number; span = c i } } in
          let o : opened_renamed M.ω (opened_renamed M.χ t.opening) ≡ Some g = ap (λ (z : Option Opening). opened_renamed M.ω (opened_renamed M.χ z)) n.opened ∙ ap {B = Option Opening} Some again in
          let same : span_renamed M.ω (span_renamed M.χ t) ≡ t = M.from_one.neat.one_opening g (span_renamed M.ω (span_renamed M.χ t)) t r q n.newly n.newly o n.opened in
          ap (λ (z : ℕ). M.ω (M.χ z)) (sym e) ∙ ap (λ (z : Span). z.serial) same ∙ e

  there_back : (s : ℕ) → Present u.spans s → M.ω (M.χ s) ≡ s
  there_back s h = come_back (suc s) s (omega arith) h

  whole_stays : M.χ 0 ≡ 0
  whole_stays = go_old 0 M.starts.twins.there.has_whole ∙ M.starts.twins.there.whole

  on_there : (s : ℕ) → u.ends s ≡ On → v.ends (M.χ s) ≡ On
  on_there s e = subst (λ c. EndIs (v.ends (M.χ s)) c) e (M.there.ends s)

  rest_sent : Sent M.χ M.ω u v
  rest_sent = record { spans = M.there.spans; duties = M.there.duties; later = M.there.later; back = there_back }

  rest_orderly : Orderly S u
  rest_orderly = record { well_formed = M.from_one.resting.well_formed; neat = M.from_one.neat; duties = M.duties_one }

  -- so do the spans that go on
  going_there : (t : Span) → Stays u.ends u.spans t → span_renamed M.χ t ∈ going_on v.ends v.spans
  going_there t a =
      let q : stale (span_renamed M.χ a.was) ∈ going_on v.ends v.spans = in_going v.ends v.spans (span_renamed M.χ a.was) (M.there.spans a.was a.was_in) (on_there a.was.serial a.is_on) in
      let x : M.χ a.was.serial ≡ M.χ t.serial = ap M.χ a.same_serial in
      let y : opened_renamed M.χ a.was.opening ≡ opened_renamed M.χ t.opening = ap (opened_renamed M.χ) a.same_opening_says in
      let z : false ≡ t.fresh = sym a.stale in
      let p : stale (span_renamed M.χ a.was) ≡ span_renamed M.χ t = λ i. record { serial = x i; opening = y i; fresh = z i } in
      subst (λ r. r ∈ going_on v.ends v.spans) p q

  -- and what the next state starts with
  next_sent : Sent M.χ M.ω (next_work u) (next_work v)
  next_sent = record {
    spans = λ t q. going_there t (going_in u.ends u.spans t q);
    duties = M.there.later;
    later = λ d q. absurd (elim q [ ]);
    back = λ s h. let a = going_in u.ends u.spans h.span h.inside in there_back s (record { span = a.was; inside = a.was_in; named = a.same_serial ∙ h.named });
  }

  next_like : u.ends 0 ≡ On → Like M.χ M.ω (next_work u) (next_work v)
  next_like o = record {
    spans = next_sent.spans;
    duties = next_sent.duties;
    back = next_sent.back;
    whole = whole_stays;
    has_whole =
        let h : Present w.spans 0 = M.starts.twins.there.has_whole in
        present_going u.ends u.spans 0 (record { span = h.span; inside = M.from_one.resting.grown.more_spans h.span h.inside; named = h.named }) o;
  }

  -- an end that is known there is known here
  ended_there : (s : ℕ) → Present u.spans s → IsEnded (v.ends (M.χ s)) → IsEnded (u.ends s)
  ended_there s h i = subst (λ z. IsEnded (u.ends z)) (there_back s h) (ended (v.ends (M.χ s)) (u.ends (M.ω (M.χ s))) (M.back.ends (M.χ s)) i)
    where
      ended : (c e : End) → EndIs e c → IsEnded c → IsEnded e
      ended Unknown e h i = absurd i
      ended On e h i = subst IsEnded (sym h) tt
      ended Last e h i = subst IsEnded (sym h) tt

both_known : (p q : Option ℤ) → ((v : ℤ) → p ≡ Some v → q ≡ Some v) → ((v : ℤ) → q ≡ Some v → p ≡ Some v) → p ≡ q
both_known None None h k = refl
both_known None (Some v) h k = k v refl
both_known (Some u) q h k = sym (h u refl)

both_ends : (c e : End) → EndIs e c → EndIs c e → c ≡ e
both_ends Unknown Unknown h k = refl
both_ends On Unknown h k = sym h
both_ends Last Unknown h k = sym h
both_ends c On h k = k
both_ends c Last h k = k

both_true : (a b : Bool) → (a ≡ true → b ≡ true) → (b ≡ true → a ≡ true) → a ≡ b
both_true true b h k = sym (h refl)
both_true false true h k = k refl
both_true false false h k = refl

ended_is : (c : End) → IsEnded c → is_ended c ≡ true
ended_is Unknown h = absurd h
ended_is On h = refl
ended_is Last h = refl

all_ended_from : (f : ℕ → End) (l : List Span) → ((t : Span) → t ∈ l → IsEnded (f t.serial)) → all_ended f l ≡ true
all_ended_from f [] h = refl
all_ended_from f (x ∷ l) h = and_from (is_ended (f x.serial)) (all_ended f l) (ended_is (f x.serial) (h x (here refl))) (all_ended_from f l (λ t q. h t (there q)))

all_there : {S T : Setting} {k : ℕ} {w b u v : Work} → Mutual S T k w b u v → all_ended v.ends v.spans ≡ true → all_ended u.ends u.spans ≡ true
all_there {u = u} {v = v} M e =
    all_ended_from u.ends u.spans (λ t q. ended_there M t.serial (record { span = t; inside = q; named = refl }) (all_ended_says v.ends v.spans e (span_renamed M.χ t) (M.there.spans t q)))

module _ {S T : Setting} {k : ℕ} {w b u v : Work} (M : Mutual S T k w b u v) where
  known_same : (x : ℕ) → u.known x ≡ v.known x
  known_same x = both_known (u.known x) (v.known x) (M.there.known x) (M.back.known x)

  pub whole_same : u.ends 0 ≡ v.ends 0
  whole_same =
      both_ends (u.ends 0) (v.ends 0) (subst (λ z. EndIs (v.ends z) (u.ends 0)) (whole_stays M) (M.there.ends 0))
      (subst (λ z. EndIs (u.ends z) (v.ends 0)) (whole_stays (mutual_back M)) (M.back.ends 0))

  ends_same : (s : ℕ) → Present u.spans s → u.ends s ≡ v.ends (M.χ s)
  ends_same s h = both_ends (u.ends s) (v.ends (M.χ s)) (M.there.ends s) (subst (λ z. EndIs (u.ends z) (v.ends (M.χ s))) (there_back M s h) (M.back.ends (M.χ s)))

  all_same : all_ended u.ends u.spans ≡ all_ended v.ends v.spans
  all_same = both_true (all_ended u.ends u.spans) (all_ended v.ends v.spans) (all_there (mutual_back M)) (all_there M)

  pub open_same : (n : ℕ) → left_open n u ≡ left_open n v
  open_same n = λ i. lowest_unknown (λ x. known_same x i) 0 n (cond (all_same i) None (Some LeftOpen.End))

  pub state_same : (n : ℕ) → state_of n u ≡ state_of n v
  state_same n = λ i. map (λ x. unwrap_or (known_same x i) (pos 0)) (range_with_len 0 n)

  as_many : length u.spans ≡ length v.spans
  as_many = omega (
    arith,
    fits_in (span_renamed M.χ) u.spans v.spans M.from_one.neat.spans (one_of (rest_orderly M) (rest_sent M)) M.there.spans,
    fits_in (span_renamed M.ω) v.spans u.spans M.from_other.neat.spans (one_of (rest_orderly (mutual_back M)) (rest_sent (mutual_back M))) M.back.spans,
  )

  begun_as_many : length w.spans ≡ length b.spans
  begun_as_many = omega (
    arith,
    fits_in (span_renamed M.starts.twins.φ) w.spans b.spans M.starts.one.neat.spans (one_of (start_orderly M.starts.one) (like_sent M.starts.one M.starts.twins.there)) M.starts.twins.there.spans,
    fits_in (span_renamed M.starts.twins.ψ) b.spans w.spans M.starts.other.neat.spans (one_of (start_orderly M.starts.other) (like_sent M.starts.other M.starts.twins.back)) M.starts.twins.back.spans,
  )

  next_serial : u.next ≡ v.next
  next_serial = omega (arith, M.from_one.counted, M.from_other.counted, as_many, begun_as_many, M.starts.next)

  pub rests_same : SameButForOrder u v
  rests_same = same_but_for_order (rest_orderly M) (rest_orderly (mutual_back M)) (rest_sent M) (rest_sent (mutual_back M)) (whole_stays M) known_same ends_same next_serial

  pub next_same : SameButForOrder (next_work u) (next_work v)
  next_same =
      same_but_for_order (start_orderly (next_start M.from_one)) (start_orderly (next_start M.from_other)) (next_sent M) (next_sent (mutual_back M)) (whole_stays M) (λ x. refl) (λ s l. refl) next_serial

  pub next_paired : u.ends 0 ≡ On → Paired S T (next_work u) (next_work v)
  next_paired o = record {
    one = next_start M.from_one;
    other = next_start M.from_other;
    twins = record { φ = M.χ; ψ = M.ω; there = next_like M o; back = next_like (mutual_back M) (sym whole_same ∙ o) };
    next = next_serial;
  }
