-- Neighbours that rise make a list that rises.
use Rattle.std.proofs.Common.{◌≡◌, rules, Bool, leb, subst, sym}
use Rattle.std.specs.List.{IsAllAdjacentAnswer}
use Rattle.std.proofs.lemmas.Bool.{leb-true}
use Rattle.std.proofs.lemmas.List.Sorted.{IsNonDecreasingBy-from_all_adjacent, answers_always}
use Rattle.feed.specs.declared.list.Reading.{Reading}
use Rattle.feed.specs.Lists.{rank}
use Rattle.feed.proofs.list.rises.Goals as goal

pub returns : goal.returns
returns c e =
    let cases = c.is_sorted_by.ensures.cases (λ (q r : Reading). leb (rank q) (rank r)) (answers_always _ _ _ (λ f a r g h. search rules)) in
    let near = subst (IsAllAdjacentAnswer (λ (q r : Reading) (b : Bool). b ≡ leb (rank q) (rank r)) c.args.list.now) e cases in
    IsNonDecreasingBy-from_all_adjacent rank c.args.list.now (λ k d h. leb-true _ _ (sym (near k d h)))
