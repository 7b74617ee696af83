-- Advances in any order record the same and answer alike.
use Rattle.std.proofs.Common.{◌≡◌, ℕ, ◌<◌, length, List, ℤ, Option, sym, refl, subst, arith}
use Rattle.sheet.specs.Content.{Content}
use Rattle.sheet.specs.Limits.{Limits}
use Rattle.feed.specs.Readings.{SameReadings}
use Rattle.meaning.specs.declared.duties.Stop.{Stop}
use Rattle.meaning.specs.Intervals.{Setting, under}
use Rattle.meaning.specs.Work.{Work}
use Rattle.meaning.specs.Visiting.{Visiting, in_any_order}
use Rattle.meaning.specs.Runs.{Step, stopped, finished, StepsBy, OngoingBy, onward}
use Rattle.meaning.proofs.SameRests.{Paired, starts_same}
use Rattle.meaning.proofs.OrderLaw.{MeetSteps, meet_finished, meet_undetermined, meet_broken, not_finished_recorded, not_stopped_recorded, not_finished_stopped, not_stopped_finished, not_recorded_finished, not_recorded_stopped, Recorded, both_recorded, together, steps_at}
use Rattle.meaning.proofs.AnyRuns.{start_of, steps_any, open_any}
use Rattle.calls.specs.declared.answers.Ending.{Ending}
use Rattle.calls.specs.declared.answers.Ending.TheVariants.{Stopped}
use Rattle.calls.specs.Standing.{Standing, ended, Recording, with_state}
use Rattle.calls.specs.Published.{PublishedAnswer, published_stop}
use Rattle.calls.specs.Calls.{SettledBy, all_asked, no_room, met_stop, last_state, one_more}
use Rattle.calls.specs.AnyOrder.{SameAnswer, same_answer, both_tell_broken, StandAlike, both_run, both_ended, both_stopped, AdvancesAgree}

-- an advance settles its states in some order
settled_any : {S : Setting} (L : Limits S.sheet) (i : Visiting) {n : ℕ} {q p : Recording} {w : Work} {a : PublishedAnswer} {s : Standing} → OngoingBy in_any_order S q.states w → SettledBy i S n q w a s p → SettledBy in_any_order S n q w a s p
settled_any L i o all_asked = all_asked
settled_any L i o (no_room e) = no_room e
settled_any L i o (met_stop h t) = met_stop h (steps_any L i (start_of L o) t)
settled_any L i o (last_state h t) = last_state h (steps_any L i (start_of L o) t)
settled_any L i o (one_more h t m) = let u = steps_any L i (start_of L o) t in one_more h u (settled_any L i (onward o u) m)

-- what two advances come to
record Advanced (a b : PublishedAnswer) (s t : Standing) (p r : Recording) : Type 0 where
  recordings : p ≡ r
  answers : SameAnswer a b
  standings : StandAlike s t

module _ {S T : Setting} (q : Recording) where
  stopped_alike : {x y : Stop} → MeetSteps S T (stopped x) (stopped y)
      → Advanced (published_stop (length q.states) x) (published_stop (length q.states) y)
      (ended (Stopped (record { stop = x; state = length q.states }))) (ended (Stopped (record { stop = y; state = length q.states }))) q q
  stopped_alike meet_undetermined = record { recordings = refl; answers = same_answer; standings = both_ended }
  stopped_alike {x = a} {y = b} (meet_broken x y) = record { recordings = refl; answers = both_tell_broken (length q.states) a b x y; standings = both_stopped x y }

  finished_alike : {x y : List ℤ} {a : PublishedAnswer} {e : Ending} → MeetSteps S T (finished x) (finished y) → Advanced a a (ended e) (ended e) (with_state x q) (with_state y q)
  finished_alike meet_finished = record { recordings = refl; answers = same_answer; standings = both_ended }

no_room_here : {n : ℕ} {P : Type 0} → n ≡ 0 → 0 < n → P
no_room_here e h = absurd (omega (arith, e, h))

module _ (c : Content) (L : Limits c) (f g : ℕ → ℕ → Option ℤ) (R : SameReadings f g) where
  abbrev S : Setting
  S = under c f

  abbrev T : Setting
  T = under c g

  meet : (k : ℕ) {w v : Work} {s t : Step} → Paired S T w v → StepsBy in_any_order S k w s → StepsBy in_any_order T k v t → MeetSteps S T s t
  meet k P x y = steps_at c L f g R k k refl P x y

  advance : {n : ℕ} {q p r : Recording} {w v : Work} {a b : PublishedAnswer} {s t : Standing} → Paired S T w v → SettledBy in_any_order S n q w a s p → SettledBy in_any_order T n q v b t r → Advanced a b s t p r
  advance P all_asked all_asked = record { recordings = refl; answers = same_answer; standings = both_run (starts_same P) }
  advance P (no_room e) (no_room d) = record { recordings = refl; answers = same_answer; standings = both_run (starts_same P) }
  advance P (no_room e) (met_stop h y) = no_room_here e h
  advance P (no_room e) (last_state h y) = no_room_here e h
  advance P (no_room e) (one_more h y m) = no_room_here e h
  advance P (met_stop h x) (no_room e) = no_room_here e h
  advance P (last_state h x) (no_room e) = no_room_here e h
  advance P (one_more h x m) (no_room e) = no_room_here e h
  advance P (met_stop {q = q} h x) (met_stop k y) = stopped_alike q (meet (length q.states) P x y)
  advance P (met_stop {q = q} h x) (last_state k y) = absurd (not_stopped_finished (meet (length q.states) P x y))
  advance P (met_stop {q = q} h x) (one_more k y m) = absurd (not_stopped_recorded (meet (length q.states) P x y))
  advance P (last_state {q = q} h x) (met_stop k y) = absurd (not_finished_stopped (meet (length q.states) P x y))
  advance P (last_state {q = q} h x) (last_state k y) = finished_alike q (meet (length q.states) P x y)
  advance P (last_state {q = q} h x) (one_more k y m) = absurd (not_finished_recorded (meet (length q.states) P x y))
  advance P (one_more {q = q} h x m) (met_stop k y) = absurd (not_recorded_stopped (meet (length q.states) P x y))
  advance P (one_more {q = q} h x m) (last_state k y) = absurd (not_recorded_finished (meet (length q.states) P x y))
  advance {r = r} {b = b} {t = t} P (one_more {n = n} {q = q} {u = u} {x = x} h d m) (one_more {u = z} {x = y} k e l) =
      let i : Recorded S T x y u z = both_recorded (meet (length q.states) P d e) in
      advance i.paired m (subst (λ o. SettledBy in_any_order T n (with_state o q) z b t r) (sym i.state) l)

pub advances_agree : AdvancesAgree
advances_agree c f g L R i j n q p r w v a b s t o d x y =
    let m : OngoingBy in_any_order (under c f) q.states w = open_any L i o in
    let k : OngoingBy in_any_order (under c g) q.states v = open_any L j d in
    let h : Advanced a b s t p r = advance c L f g R (together c L f g R m k refl).paired (settled_any L i m x) (settled_any L j k y) in
    (h.recordings, h.answers, h.standings)
