-- Each call leads from a moment of a run to a moment of it, or begins one.
use Rattle.std.proofs.Common.{◌≡◌, ℕ, Bool, false, ◌||◌, List, [], length, ℤ, Some, None, Ok, Err, Option, Result, sym, refl, subst}
use Rattle.std.proofs.Math.Bool.{or-false}
use Rattle.sheet.specs.Content.{Content}
use Rattle.load.specs.declared.refusals.Refusal.{Refusal}
use Rattle.load.specs.Parsing.{parse_sheet}
use Rattle.meaning.specs.declared.duties.Stop.{Stop}
use Rattle.meaning.specs.declared.duties.Stop.TheVariants.{Contradiction, Undetermined, Crowded}
use Rattle.meaning.specs.Intervals.{Setting, under}
use Rattle.meaning.specs.Work.{Work}
use Rattle.meaning.specs.Runs.{first_work, Steps, stopped, Ongoing, start, onward, finish, stop}
use Rattle.calls.specs.declared.answers.Denial.{Denial}
use Rattle.calls.specs.declared.answers.Denial.TheVariants.{RunIsOpen, NoRunIsOpen, WrongStates, OtherRecorder, NoSuchState, NoSuchVariable}
use Rattle.calls.specs.Standing.{Standing, idle, running, ended, Meant, Recording}
use Rattle.calls.specs.Published.{PublishedAnswer, done, published_denial, published_stop, says_finished, says_contradiction}
use Rattle.calls.specs.Calls.{LoadsBy, LoadsIn, Loads, Opens, BeginsIn, Begins, Settled, all_asked, no_room, met_stop, last_state, one_more, not_advanced, AdvancesBy, AdvancesIn, Advances, AbandonsIn, Abandons}
use Rattle.calls.proofs.Moments.{Past, has_finished, contradicted, left_off, Going, MomentIn, Moment}

-- a run that no longer goes on
given_up : {S : Setting} {c : Content} {w : Work} {r : List (List ℤ)} {x y : Bool} → Going S c w r x y → Past S r x y
given_up {w = w} g = rw (g.unfinished, g.unrefuted) (left_off w g.so_far)

-- ---- a load leaves the run as it is
loads_by : (S : Setting) (v : Result Content Refusal) (e d : Meant) (r : List (List ℤ)) (x y : Bool) (a : PublishedAnswer) → Moment S e r x y → Past S r x y → LoadsBy v e a d → Moment S d r x y
loads_by S (Ok c) e d r x y a m p h = rw h.1 p
loads_by S (Err z) e d r x y a m p h = rw h.1 m

loads_in : (S : Setting) (t : Standing) (text : List ℕ) (e d : Meant) (r : List (List ℤ)) (x y : Bool) (a : PublishedAnswer) → Moment S e r x y → MomentIn S t e.sheet r x y → LoadsIn t text e a d → Moment S d r x y
loads_in S idle text e d r x y a m p h = loads_by S (parse_sheet text) e d r x y a m p h
loads_in S (running k w) text e d r x y a m p h = rw h.1 m
loads_in S (ended z) text e d r x y a m p h = loads_by S (parse_sheet text) e d r x y a m p h

pub loads_moment : (S : Setting) (text : List ℕ) (e d : Meant) (r : List (List ℤ)) (x y : Bool) (a : PublishedAnswer) → Moment S e r x y → Loads text e a d → Moment S d r x y
loads_moment S text e d r x y a m h = loads_in S e.standing text e d r x y a m m h

-- ---- a begin that is not denied opens a run of the sheet that is held
opens_moment : (S : Setting) (capacity : ℕ → ℕ) (e d : Meant) (p : Recording) → e.sheet ≡ S.sheet → Opens capacity e done d p → Moment S d p.states false false
opens_moment S capacity e d p s h = rw (h.1, h.2) (record { sheet = s; so_far = subst (λ (c : Content). Ongoing S [] (first_work c.run)) (sym s) start; unfinished = refl; unrefuted = refl })

begins_in : (S : Setting) (t : Standing) (capacity : ℕ → ℕ) (e d : Meant) (q p : Recording) → e.sheet ≡ S.sheet → BeginsIn t capacity e q done d p → Moment S d p.states false false
begins_in S idle capacity e d q p s h = opens_moment S capacity e d p s h
begins_in S (running k w) capacity e d q p s h = absurd (cc (h.0))
begins_in S (ended z) capacity e d q p s h = opens_moment S capacity e d p s h

pub begins_moment : (S : Setting) (capacity : ℕ → ℕ) (e d : Meant) (q p : Recording) → e.sheet ≡ S.sheet → Begins capacity e q done d p → Moment S d p.states false false
begins_moment S capacity e d q p s h = begins_in S e.standing capacity e d q p s h

-- one that is denied changes nothing
denied_in : (S : Setting) (t : Standing) (capacity : ℕ → ℕ) (z : Denial) (e d : Meant) (q p : Recording) (x y : Bool) → Moment S e q.states x y → BeginsIn t capacity e q (published_denial z) d p → Moment S d p.states x y
denied_in S idle capacity z e d q p x y m h = absurd (cc (h.0))
denied_in S (running k w) capacity z e d q p x y m h = rw (h.1, h.2) m
denied_in S (ended v) capacity z e d q p x y m h = absurd (cc (h.0))

pub begin_denied_moment : (S : Setting) (capacity : ℕ → ℕ) (z : Denial) (e d : Meant) (q p : Recording) (x y : Bool) → Moment S e q.states x y → Begins capacity e q (published_denial z) d p → Moment S d p.states x y
begin_denied_moment S capacity z e d q p x y m h = denied_in S e.standing capacity z e d q p x y m h

-- ---- an advance: a stop is met, by the answer that tells it
stop_past : (S : Setting) (k : ℕ) (r : List (List ℤ)) (w : Work) (s : Stop) → Ongoing S r w → Steps S (length r) w (stopped s) → Past S r (says_finished (published_stop k s)) (says_contradiction (published_stop k s))
stop_past S k r w (Contradiction p) o t = contradicted p (stop o t)
stop_past S k r w (Undetermined v) o t = left_off w o
stop_past S k r w Crowded o t = left_off w o

-- states are settled
settled_moment : {S : Setting} {n : ℕ} {q p : Recording} {w : Work} {a : PublishedAnswer} {s : Standing} → Ongoing S q.states w → Settled S n q w a s p → MomentIn S s S.sheet p.states (says_finished a) (says_contradiction a)
settled_moment o all_asked = record { sheet = refl; so_far = o; unfinished = refl; unrefuted = refl }
settled_moment o (no_room e) = record { sheet = refl; so_far = o; unfinished = refl; unrefuted = refl }
settled_moment {S} o (met_stop {q = q} {w = w} {s = s} h t) = stop_past S (length q.states) q.states w s o t
settled_moment o (last_state h t) = has_finished (finish o t)
settled_moment o (one_more h t m) = settled_moment (onward o t) m

-- no denial says that a contradiction was met
denial_says : (z : Denial) → says_contradiction (published_denial z) ≡ false
denial_says RunIsOpen = refl
denial_says NoRunIsOpen = refl
denial_says WrongStates = refl
denial_says NoSuchState = refl
denial_says NoSuchVariable = refl
denial_says OtherRecorder = refl

-- so one that is denied changes nothing
denied_moment : (S : Setting) (z : Denial) (e d : Meant) (q p : Recording) (x y : Bool) (a : PublishedAnswer) → Moment S e q.states x y → (a ≡ published_denial z) × (d ≡ e) × (p ≡ q) → Moment S d p.states (x || says_finished a) (y || says_contradiction a)
denied_moment S z e d q p x y a m h = rw (h.1, h.2, h.0, denial_says z, or-false x, or-false y) m

advances_by : (S : Setting) (o : Option Denial) (n : ℕ) (w : Work) (e d : Meant) (q p : Recording) (x y : Bool) (a : PublishedAnswer) → Moment S e q.states x y → Going S e.sheet w q.states x y → AdvancesBy o S.readings n w e q a d p → Moment S d p.states (x || says_finished a) (y || says_contradiction a)
advances_by S (Some z) n w e d q p x y a m g h = denied_moment S z e d q p x y a m h
advances_by S None n w e d q p x y a m g h =
    let t : Settled S n q w a d.standing p = subst (λ (c : Content). Settled (under c S.readings) n q w a d.standing p) g.sheet h.0 in
    rw (h.1, g.sheet, g.unfinished, g.unrefuted) (settled_moment g.so_far t)

advances_in : (S : Setting) (t : Standing) (n : ℕ) (e d : Meant) (q p : Recording) (x y : Bool) (a : PublishedAnswer) → Moment S e q.states x y → MomentIn S t e.sheet q.states x y → AdvancesIn t S.readings n e q a d p → Moment S d p.states (x || says_finished a) (y || says_contradiction a)
advances_in S idle n e d q p x y a m g h = denied_moment S NoRunIsOpen e d q p x y a m h
advances_in S (running k w) n e d q p x y a m g h = advances_by S (not_advanced n k e q) n w e d q p x y a m g h
advances_in S (ended z) n e d q p x y a m g h = denied_moment S NoRunIsOpen e d q p x y a m h

pub advances_moment : (S : Setting) (n : ℕ) (e d : Meant) (q p : Recording) (x y : Bool) (a : PublishedAnswer) → Moment S e q.states x y → Advances S.readings n e q a d p → Moment S d p.states (x || says_finished a) (y || says_contradiction a)
advances_moment S n e d q p x y a m h = advances_in S e.standing n e d q p x y a m m h

-- ---- an abandon ends the run, and leaves its record
abandons_in : (S : Setting) (t : Standing) (e d : Meant) (r : List (List ℤ)) (x y : Bool) (a : PublishedAnswer) → Moment S e r x y → MomentIn S t e.sheet r x y → AbandonsIn t e a d → Moment S d r x y
abandons_in S idle e d r x y a m g h = rw h.1 m
abandons_in S (running k w) e d r x y a m g h = rw h.1 (given_up g)
abandons_in S (ended z) e d r x y a m g h = rw h.1 m

pub abandons_moment : (S : Setting) (e d : Meant) (r : List (List ℤ)) (x y : Bool) (a : PublishedAnswer) → Moment S e r x y → Abandons e a d → Moment S d r x y
abandons_moment S e d r x y a m h = abandons_in S e.standing e d r x y a m m h
