-- The order in which a state's work is visited makes no difference: what two orders may come to differ in, and the law that they differ in nothing else. Assumes nothing.
use Rattle.std.specs.Prelude.{◌≡◌, ℕ, ◌<◌, ◌≤◌, true, false, List, map, length, ℤ, Some, None, Option, IsPermutation}
use Rattle.sheet.specs.Content.{Content}
use Rattle.sheet.specs.Limits.{Limits}
use Rattle.feed.specs.Readings.{SameReadings}
use Rattle.meaning.specs.declared.duties.Duty.{Duty}
use Rattle.meaning.specs.declared.duties.LeftOpen.{LeftOpen}
use Rattle.meaning.specs.declared.duties.Opening.{Opening}
use Rattle.meaning.specs.declared.duties.Span.{Span}
use Rattle.meaning.specs.declared.duties.Stop.{Stop}
use Rattle.meaning.specs.declared.duties.Stop.TheVariants.{Contradiction, Undetermined, Crowded}
use Rattle.meaning.specs.Intervals.{Setting, under}
use Rattle.meaning.specs.Work.{Work, Outcome, stops, goes}
use Rattle.meaning.specs.Passes.{Settles}
use Rattle.meaning.specs.Visiting.{OneVisit, Visits, SettlesInAnyOrder, Visiting, in_any_order}
use Rattle.meaning.specs.Runs.{next_work, left_open, Ongoing, OngoingBy, FinishedBy, MetStopBy, RecordBy}
use Rattle.meaning.specs.Members.{◌∈◌, Present}

-- a duty whose span has another serial
abbrev pub duty_renamed : (ℕ → ℕ) → Duty → Duty
duty_renamed φ d = record { statement = d.statement; number = d.number; span = φ d.span }

-- an opening whose outer span has another serial
abbrev pub opening_renamed : (ℕ → ℕ) → Opening → Opening
opening_renamed φ g = record { by = g.by; body = g.body; starts = g.starts; follower = duty_renamed φ g.follower }

abbrev pub opened_renamed : (ℕ → ℕ) → Option Opening → Option Opening
opened_renamed φ None = None
opened_renamed φ (Some g) = Some (opening_renamed φ g)

-- a span with another serial
abbrev pub span_renamed : (ℕ → ℕ) → Span → Span
span_renamed φ t = record { serial = φ t.serial; opening = opened_renamed φ t.opening; fresh = t.fresh }

-- two works that are the same but for the serials of their spans and the order of their lists
pub record SameButForOrder (w v : Work) : Type 0 where
  -- the serial that a span of w has in v, and the way back: no two spans get one serial, and the whole interval keeps its own
  pub rename : ℕ → ℕ
  pub back : ℕ → ℕ
  pub undone : (s : ℕ) → Present w.spans s → back (rename s) ≡ s
  pub whole : rename 0 ≡ 0
  -- the same is known of each variable, and of the end of each span
  pub known : (x : ℕ) → w.known x ≡ v.known x
  pub ends : (s : ℕ) → Present w.spans s → w.ends s ≡ v.ends (rename s)
  -- the lists have the same entries, each as often
  pub spans : IsPermutation (map (span_renamed rename) w.spans) v.spans
  pub duties : IsPermutation (map (duty_renamed rename) w.duties) v.duties
  pub later : IsPermutation (map (duty_renamed rename) w.later) v.later
  -- every serial that is used is that of a span, so none is renamed at will
  pub owed : (d : Duty) → d ∈ w.duties → Present w.spans d.span
  pub carried : (d : Duty) → d ∈ w.later → Present w.spans d.span
  pub outer : (t : Span) (g : Opening) → t ∈ w.spans → t.opening ≡ Some g → Present w.spans g.follower.span
  -- the next span gets the same serial
  pub next : w.next ≡ v.next

-- a stop that a visit can meet: a contradiction or crowding
abbrev pub Broken : Stop → Type 0
Broken (Contradiction p) = Unit {0}
Broken (Undetermined x) = ⊥
Broken Crowded = Unit {0}

-- two outcomes that are the same but for order: both orders come to rest, with works that are so, leave the same open, and start the next state with
-- works that are so; or neither comes to rest
pub data SameOutcome : Outcome → Outcome → Type 0 where
  both_rest : {u v : Work} → SameButForOrder u v → ((n : ℕ) → left_open n u ≡ left_open n v) → SameButForOrder (next_work u) (next_work v) → SameOutcome (goes u false) (goes v false)
  neither_rests : {a b : Stop} → Broken a → Broken b → SameOutcome (stops a) (stops b)

-- a run that has ended, with its record: none where it has finished, or the stop that it has met
pub data EndedBy (i : Visiting) (S : Setting) (r : List (List ℤ)) : Option Stop → Type 0 where
  has_finished : FinishedBy i S r → EndedBy i S r None
  has_stopped : {s : Stop} → MetStopBy i S r s → EndedBy i S r (Some s)

-- two verdicts of one kind: both finished, both undetermined with the same left open, or both a contradiction or crowding
pub data SameVerdict : Option Stop → Option Stop → Type 0 where
  both_finished : SameVerdict None None
  both_undetermined : {x : LeftOpen} → SameVerdict (Some (Undetermined x)) (Some (Undetermined x))
  both_broken : {a b : Stop} → Broken a → Broken b → SameVerdict (Some a) (Some b)

-- every order of visits leads to an end: of the states of one setting's runs
pub record OrdersEnd (S : Setting) : Type 0 where
  -- passes are one of the orders: what they come to, some order comes to, and so it is along whole runs
  pub passes : (r : List (List ℤ)) (w : Work) → OngoingBy in_any_order S r w → (o : Outcome) → Settles S (length r) w o → SettlesInAnyOrder S (length r) w o
  pub engines : (r : List (List ℤ)) (w : Work) → Ongoing S r w → OngoingBy in_any_order S r w
  -- whatever has been visited so far, there are visits that bring the state to an outcome
  pub some_outcome : (r : List (List ℤ)) (w u : Work) → OngoingBy in_any_order S r w → Visits S (length r) w u → (o : Outcome) × SettlesInAnyOrder S (length r) u o
  -- and no order changes it for ever: a visit that reports no change leaves the work as it is, and each other lowers a measure
  pub no_endless_change : (r : List (List ℤ)) (w : Work) → OngoingBy in_any_order S r w
      → (measure : Work → ℕ) × ((u v : Work) → Visits S (length r) w u → (OneVisit S (length r) u (goes v false) → v ≡ u) × (OneVisit S (length r) u (goes v true) → measure v < measure u))

-- two runs, each state of which was visited in an order of its own: at equal counts the records are equal, and the next states start with works that
-- are the same but for order, and come to outcomes that are the same but for order
abbrev pub StatesAgree : Setting → Setting → Type 0
StatesAgree S T =
    (q r : List (List ℤ)) (w v : Work) → OngoingBy in_any_order S q w → OngoingBy in_any_order T r v → length q ≡ length r
    → (q ≡ r) × SameButForOrder w v × ((o p : Outcome) → SettlesInAnyOrder S (length q) w o → SettlesInAnyOrder T (length r) v p → SameOutcome o p)

-- whole runs, of the one and of the other way of visiting
pub record RunsAgree (S T : Setting) (i j : Visiting) : Type 0 where
  -- equal counts, equal records
  pub records : (q r : List (List ℤ)) → RecordBy i S q → RecordBy j T r → length q ≡ length r → q ≡ r
  -- two that have ended have the same record, and verdicts of one kind
  pub verdicts : (q r : List (List ℤ)) (x y : Option Stop) → EndedBy i S q x → EndedBy j T r y → (q ≡ r) × SameVerdict x y
  -- where the one has finished, or met a stop, the other goes no further
  pub finished : (q r : List (List ℤ)) (w : Work) → FinishedBy i S q → OngoingBy j T r w → length r < length q
  pub stopped : (q r : List (List ℤ)) (s : Stop) (w : Work) → MetStopBy i S q s → OngoingBy j T r w → length r ≤ length q
  -- what a run has recorded, some run of the other kind records too; and where it has ended, some run of the other kind ends with the same record and a like verdict
  pub reaches : (q : List (List ℤ)) (w : Work) → OngoingBy i S q w → (v : Work) × OngoingBy j T q v
  pub reaches_end : (q : List (List ℤ)) (x : Option Stop) → EndedBy i S q x → (y : Option Stop) × EndedBy j T q y × SameVerdict x y

-- the order of visits makes no difference: for every sheet that keeps the limits, and all readings; equal readings where two runs are compared
pub record OrderMakesNoDifference : Type 0 where
  pub orders : (S : Setting) → Limits S.sheet → OrdersEnd S
  pub states : (c : Content) (f g : ℕ → ℕ → Option ℤ) → Limits c → SameReadings f g → StatesAgree (under c f) (under c g)
  pub runs : (c : Content) (f g : ℕ → ℕ → Option ℤ) → Limits c → SameReadings f g → (i j : Visiting) → RunsAgree (under c f) (under c g) i j
