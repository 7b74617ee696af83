-- By the condition.
use Rattle.sheet.specs.ContentOf.{content_of}
use Rattle.engine.proofs.CallsByCondition.{abandon_does}
use Rattle.engine.proofs.engine.Engine.abandon.Goals as goal

pub returns : goal.returns
returns c =
    let e = c.args.self.now in
    abandon_does e.condition c.admit.new.condition e.settler (content_of e.loader.sheet) c.admit.result c.admit.ensures.answer c.admit.ensures.after
