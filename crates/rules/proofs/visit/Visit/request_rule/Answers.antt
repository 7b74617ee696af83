-- The reading is the feed's.
use Rattle.std.proofs.Common.{◌≡◌, ℕ, ℤ, Some, Option, sym, ap, ◌∙◌, rules}
use Rattle.std.proofs.lemmas.Int.{to_z-of_z}
use mir.Syntax.{w64}
use Rattle.meaning.specs.Intervals.{Setting, under}
use Rattle.meaning.specs.Work.{Work, Outcome}
use Rattle.meaning.specs.Effects.{give}
use Rattle.meaning.specs.Rules.{once_known}
use Rattle.board.specs.Work.{work_of}
use Rattle.sheet.specs.ContentOf.{content_of}
use Rattle.rules.proofs.visit.Visit.request_rule.Goals as goal

-- where the reading r is v, the variable x is given v
reading_given : (S : Setting) (p x : ℕ) (v u : ℤ) (r : Option ℤ) (w : Work) (o : Outcome) → u ≡ v → o ≡ give S p x u w → Some v ≡ r → o ≡ once_known r (give S p x) w
reading_given S p x v u r w o q e h = e ∙ ap (λ (z : ℤ). give S p x z w) q ∙ ap (λ (z : Option ℤ). once_known z (give S p x) w) h

pub returns-in_default : goal.returns-in_default
returns-in_default g c =
    let v = c.args.self.now in
    let S = under (content_of v.sheet.now) (g.F.Feed.readings v.feed.now) in
    ap (λ (o : Option ℤ). once_known o (give S v.duty.statement c.args.x) (work_of c.args.board.now))
    (sym c.in_default.is ∙ c.reading.ensures.answer ∙ ap (λ (y : ℕ). g.F.Feed.readings v.feed.now y v.state) c.from.ensures)

pub returns : goal.returns
returns g c =
    let v = c.args.self.now in
    let S = under (content_of v.sheet.now) (g.F.Feed.readings v.feed.now) in
    reading_given S v.duty.statement c.args.x c.in-Some.v _ _ (work_of c.args.board.now) _ (to_z-of_z w64 c.in-Some.v (search rules)) (c.give.ensures (g.F.Feed.readings v.feed.now))
    (sym c.in-Some.is ∙ c.reading.ensures.answer ∙ ap (λ (y : ℕ). g.F.Feed.readings v.feed.now y v.state) c.from.ensures)
