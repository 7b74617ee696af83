-- The width of a sheet is one that a recorder allows.
use Rattle.std.proofs.Common.{◌≡◌, ℕ, Bool, true, length, vec_len, Ok, if◌then◌else◌, sym, ap, ◌∙◌, rules}
use Rattle.record.specs.Rules.{allowed_width}
use Rattle.record.proofs.TakeRules.{of_allowed}
use Rattle.sheet.specs.declared.kept.Sheet.{Sheet}
use Rattle.sheet.specs.ContentOf.{content_of}
use Rattle.meaning.specs.Runs.{first_work}
use Rattle.calls.specs.Standing.{recording}
use Rattle.engine.proofs.CallsByCondition.{begin_admitted, started}
use Rattle.engine.proofs.engine.Engine.begin.Goals as goal

-- as many variables as a sheet has are allowed
width_allowed : (s : Sheet) → allowed_width (length (content_of s).variables) ≡ true
width_allowed s = of_allowed (length (content_of s).variables) (s.counts.0, s.counts.1)

-- the length of the sheet's table is their number
counted : (n : ℕ) (r s : Sheet) → n ≡ vec_len r.tables.variables → r ≡ s → n ≡ length (content_of s).variables
counted n r s e h = e ∙ ap (λ (z : Sheet). vec_len z.tables.variables) h ∙ s.tables.variables.ok.0

pub returns-clause-outcome : goal.returns-clause-outcome
returns-clause-outcome g c =
    let R = g.R.Recorder in
    let e = c.args.self.now in
    let s = e.loader.sheet in
    let n = c.start.new.self in
    let width : c.len.result ≡ length (content_of s).variables = counted c.len.result c.sheet-sheet.result.now s c.len.ensures c.sheet-sheet.ensures in
    let told : c.start.result ≡ true = c.start.ensures.answer ∙ ap allowed_width width ∙ width_allowed s in
    let admitted_so : c.admit.result ≡ Ok tt = search rules in
    let work = c.begin.ensures.work ∙ ap (λ (z : Sheet). first_work z.run) c.sheet-sheet.ensures in
    let q = recording R.states R.state_width R.room_left c.args.recorder.now in
    let p = recording R.states R.state_width R.room_left n in
    begin_admitted e.condition e.settler c.begin.new.self s (R.capacity c.args.recorder.now) q p (sym c.admit.ensures.answer ∙ admitted_so) c.begin.ensures.state work
    (started c.start.result c.len.result (length (content_of s).variables) (R.capacity c.args.recorder.now) q p told width c.start.ensures.listed c.start.ensures.wide c.start.ensures.roomy)

pub returns-clause-reached : goal.returns-clause-reached
returns-clause-reached g c = λ r.
    let s = c.args.self.now.loader.sheet in
    let width : c.len.result ≡ length (content_of s).variables = counted c.len.result c.sheet-sheet.result.now s c.len.ensures c.sheet-sheet.ensures in
    let told : c.start.result ≡ true = c.start.ensures.answer ∙ ap allowed_width width ∙ width_allowed s in
    c.start.ensures.reached ∙ ap (λ (b : Bool). if b then 0 else g.R.Recorder.written_length c.args.recorder.now) told
