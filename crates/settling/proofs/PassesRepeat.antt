-- What a pass comes to, and what it says of settling.
use Rattle.std.proofs.Common.{◌≡◌, ℕ, Bool, true, false, sym, ap, ◌∙◌, subst}
use Rattle.sheet.specs.Limits.{Limits}
use Rattle.meaning.specs.declared.duties.Stop.{Stop}
use Rattle.meaning.specs.Intervals.{Setting, width}
use Rattle.meaning.specs.Work.{Work, Outcome, stops, goes}
use Rattle.meaning.specs.WellFormed.{WellFormed}
use Rattle.meaning.specs.Passes.{pass, Settles, rests, breaks, again}
use Rattle.meaning.proofs.Measure.{Less}
use Rattle.meaning.proofs.FiveChanges.{Moves, Any}
use Rattle.meaning.proofs.StaysWellFormed.{pass_moves, grown_of}

-- a pass keeps the work in order, and less is left to find out where it has changed something
pub pass_keeps : (S : Setting) → Limits S.sheet → (k : ℕ) (w u : Work) (c : Bool) → WellFormed S w → goes u c ≡ pass S k w → WellFormed S u × Less (width S) c u w
pass_keeps S L k w u c t h = let r = grown_of S L (subst (λ (z : Outcome). Moves S w Any z) (sym h) (pass_moves S L k w t)) in (r.1, r.2)

-- a pass that stops settles the state so
pub stops_there : (S : Setting) (k : ℕ) (w : Work) (s : Stop) → stops s ≡ pass S k w → Settles S k w (stops s)
stops_there S k w s h = breaks (sym h)

-- one that changes nothing settles it with the work that it leaves
pub rests_there : (S : Setting) (k : ℕ) (w u : Work) (c : Bool) → c ≡ false → goes u c ≡ pass S k w → Settles S k w (goes u false)
rests_there S k w u c e h = rests (sym (ap (goes u) (sym e) ∙ h))

-- after one that changes something, others settle it
pub goes_on : (S : Setting) (k : ℕ) (w u : Work) (c : Bool) (o : Outcome) → c ≡ true → goes u c ≡ pass S k w → Settles S k u o → Settles S k w o
goes_on S k w u c o e h s = again (sym (ap (goes u) (sym e) ∙ h)) s
