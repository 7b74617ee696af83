-- By the condition, and by what comes of the text.
use Rattle.std.proofs.Common.{◌≡◌, Ok, Err, Result, sym, refl, ap, ◌∙◌, subst, rules}
use Rattle.sheet.specs.Content.{Content}
use Rattle.sheet.specs.ContentOf.{content_of}
use Rattle.load.specs.Loading.{LoaderLoads}
use Rattle.load.specs.Parsing.{parse_sheet}
use Rattle.calls.specs.declared.answers.Condition.{Condition}
use Rattle.calls.specs.declared.answers.NotLoaded.{NotLoaded}
use Rattle.calls.specs.declared.answers.NotLoaded.TheVariants.{RunIsOpen}
use Rattle.calls.specs.Published.{published, to_load}
use Rattle.engine.specs.Meant.{meant, standing_by}
use Rattle.engine.proofs.CallsByCondition.{load_keeps, load_denied, load_admitted, load_refused}
use Rattle.engine.proofs.engine.Engine.load.Goals as goal

pub returns-in_err-map_err : goal.returns-in_err-map_err
returns-in_err-map_err c =
    let e = c.args.self.now in
    let told : c.from_residual.result ≡ Err RunIsOpen = search rules in
    load_denied e.condition e.settler c.args.text.now (meant e) _ _ c.admit.result c.admit.ensures.answer (search rules) (ap (λ (r : Result (Unit {0}) NotLoaded). published (to_load r)) told)
    (ap (λ (x : Condition). record { sheet = content_of e.loader.sheet; standing = standing_by x e.settler }) (c.admit.ensures.after ∙ load_keeps e.condition))

pub returns-in_err-map_err-2 : goal.returns-in_err-map_err-2
returns-in_err-map_err-2 c =
    let e = c.args.self.now in
    let n = c.load.new.self in
    let admitted_so : c.admit.result ≡ Ok tt = search rules in
    load_refused e.condition e.settler c.args.text.now (meant e) _ c.load.result c.from_residual-in_err-map_err-2.result (content_of e.loader.sheet) (content_of n.sheet) (sym c.admit.ensures.answer ∙ admitted_so)
    c.load.ensures.outcome (search rules)
    (λ q. ap (λ (z : Content). record { sheet = z; standing = standing_by c.admit.new.condition e.settler }) q ∙ ap (λ (x : Condition). record { sheet = content_of e.loader.sheet; standing = standing_by x e.settler }) (c.admit.ensures.after ∙ load_keeps e.condition))

pub returns : goal.returns
returns c =
    let e = c.args.self.now in
    let n = c.load.new.self in
    let admitted_so : c.admit.result ≡ Ok tt = search rules in
    let loaded_so : c.load.result ≡ Ok tt = search rules in
    load_admitted e.condition e.settler c.args.text.now (meant e) _ _ (Ok (content_of n.sheet)) (sym c.admit.ensures.answer ∙ admitted_so)
    (subst (λ r. LoaderLoads r (content_of e.loader.sheet) (content_of n.sheet) (parse_sheet c.args.text.now)) loaded_so c.load.ensures.outcome) (refl, refl)
