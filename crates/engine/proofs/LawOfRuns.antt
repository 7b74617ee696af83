-- Every run keeps the law of runs.
use Rattle.std.proofs.Common.{◌≡◌, ℕ, Bool, List, length, ℤ, Option, sym, ap, subst}
use Rattle.sheet.specs.Content.{Content}
use Rattle.sheet.specs.Limits.{Limits}
use Rattle.feed.specs.Readings.{SameReadings}
use Rattle.meaning.specs.Intervals.{under}
use Rattle.meaning.specs.Visiting.{in_passes}
use Rattle.meaning.specs.Runs.{Record}
use Rattle.meaning.proofs.Theorems.{finished_is_the_one, open_begins_all, contradiction_leaves_none}
use Rattle.meaning.proofs.EqualRuns.{equal_runs_agree}
use Rattle.settling.proofs.VisitsKeepOrder.{limits_of}
use Rattle.calls.specs.Standing.{Meant, Recording}
use Rattle.calls.proofs.Moments.{Moment, moment_finished, moment_open, moment_refuted, moment_record}
use Rattle.calls.proofs.CallsKeepMoments.{loads_moment, begins_moment, begin_denied_moment, advances_moment, abandons_moment}
use Rattle.engine.specs.declared.engine.Engine.{Engine}
use Rattle.engine.specs.Meant.{meant}
use Rattle.engine.specs.Law.{Run, begun, begin_denied, loaded, advanced, abandoned, asked, LawOfRuns}

-- the sheet of a run keeps the limits
run_limits : {s : Content} {f : ℕ → ℕ → Option ℤ} {e : Engine} {q : Recording} {x y : Bool} → Run s f e q x y → Limits s
run_limits (begun e d q p capacity h b) = subst Limits h (limits_of e.loader.sheet)
run_limits (begin_denied e d q p x y capacity z r b) = run_limits r
run_limits (loaded e d q x y text a r l) = run_limits r
run_limits (advanced e d q p x y n a r v) = run_limits r
run_limits (abandoned e d q x y a r v) = run_limits r
run_limits (asked e d q x y r h) = run_limits r

-- and every moment of it is one
run_moment : {s : Content} {f : ℕ → ℕ → Option ℤ} {e : Engine} {q : Recording} {x y : Bool} → Run s f e q x y → Moment (under s f) (meant e) q.states x y
run_moment {s} {f} (begun e d q p capacity h b) = begins_moment (under s f) capacity (meant e) (meant d) q p h b
run_moment {s} {f} (begin_denied e d q p x y capacity z r b) = begin_denied_moment (under s f) capacity z (meant e) (meant d) q p x y (run_moment r) b
run_moment {s} {f} (loaded e d q x y text a r l) = loads_moment (under s f) text (meant e) (meant d) q.states x y a (run_moment r) l
run_moment {s} {f} (advanced e d q p x y n a r v) = advances_moment (under s f) n (meant e) (meant d) q p x y a (run_moment r) v
run_moment {s} {f} (abandoned e d q x y a r v) = abandons_moment (under s f) (meant e) (meant d) q.states x y a (run_moment r) v
run_moment {s} {f} (asked e d q x y r h) = subst (λ (m : Meant). Moment (under s f) m q.states x y) (sym h) (run_moment r)

run_record : {s : Content} {f : ℕ → ℕ → Option ℤ} {e : Engine} {q : Recording} {x y : Bool} → Run s f e q x y → Record (under s f) q.states
run_record {s} {f} {e} {q} {x} {y} r = moment_record (under s f) (meant e) q.states x y (run_moment r)

-- two runs of equal sheets are runs of one
runs_agree : (s t : Content) (f g : ℕ → ℕ → Option ℤ) (p q : List (List ℤ)) → s ≡ t → SameReadings f g → Record (under s f) p → Record (under t g) q → length p ≡ length q → p ≡ q
runs_agree s t f g p q e h a b n = equal_runs_agree s f g h p q a (subst (λ (c : Content). Record (under c g) q) (sym e) b) n

pub law_of_runs : LawOfRuns
law_of_runs = record {
  finished = λ s f e q y r. finished_is_the_one (under s f) (run_limits r) in_passes q.states (moment_finished (under s f) (meant e) q.states y (run_moment r));
  begins = λ s f e q y r. let o = moment_open (under s f) (meant e) q.states y (run_moment r) in open_begins_all (under s f) (run_limits r) in_passes q.states o.0 o.1;
  none = λ s f e q x r. let o = moment_refuted (under s f) (meant e) q.states x (run_moment r) in contradiction_leaves_none (under s f) (run_limits r) in_passes q.states o.0 o.1;
  agree = λ s t f g d e p q x y z w h same a b. (ap length, runs_agree s t f g p.states q.states h same (run_record a) (run_record b));
}
