-- The second part follows.
use Rattle.std.proofs.Common.{ap, ◌∙◌}
use Rattle.value.specs.declared.end.End.TheVariants.{Unknown}
use Rattle.meaning.specs.declared.duties.Duty.{Duty}
use Rattle.meaning.specs.Effects.{open_span}
use Rattle.board.specs.Work.{work_of}
use Rattle.rules.proofs.visit.Visit.chop_rule.Goals as goal

pub returns : goal.returns
returns g c =
    c.open.ensures ∙ ap (λ (f : Duty). open_span (record { by = c.args.self.now.duty.statement; body = c.args.p; starts = Unknown; follower = f }) (work_of c.args.board.now)) c.plain.ensures
