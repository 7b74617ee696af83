-- The place that is found is where the list reaches the rank that is wanted.
use Rattle.std.proofs.Common.{◌≡◌, ◌<◌, ◌≤◌, get_or, Some, None, rules, true, false, ltb, length, ap, sym, ◌∙◌, arith}
use Rattle.std.specs.List.Sorted.{IsPartitionPoint}
use Rattle.std.specs.Option.{option_map}
use Rattle.std.proofs.lemmas.List.{get_or_read}
use Rattle.std.proofs.lemmas.List.Sorted.{IsPartitionedBy-ltb, IsPartitionPoint-from_clause}
use Rattle.feed.specs.declared.list.Reading.{Reading}
use Rattle.feed.specs.Lists.{first_reading, matches, rank, ranked}
use Rattle.feed.proofs.Halves.{halves_met, halves_missed, matches_rank}
use Rattle.feed.proofs.list.by_halves.Goals as goal
use Rattle.feed.proofs.list.by_halves.Goals.{After-partition_point-place}

-- the place is where the list has reached the rank
point : (c : After-partition_point-place) → let w = ranked c.args.variable c.args.state in
    IsPartitionPoint (λ (r : Reading). ltb (rank r) w ≡ true) (λ (r : Reading). ltb (rank r) w ≡ false) c.args.list.now c.partition_point-place.result
point c =
    let w = ranked c.args.variable c.args.state in
    IsPartitionPoint-from_clause (λ (r : Reading). ltb (rank r) w) c.args.list.now c.partition_point-place.result c.partition_point-place.ensures.partitioned
    (IsPartitionedBy-ltb rank c.args.list.now w c.requires.rises) (λ b q k h. search rules)

-- where the element there has another rank, or there is none, the list has no record for the variable and the state
missed : (c : After-partition_point-place) → let i = c.partition_point-place.result in let xs = c.args.list.now in
    ((d : Reading) → i < length xs → rank (get_or xs i d) ≡ ranked c.args.variable c.args.state → ⊥) → first_reading xs c.args.variable c.args.state ≡ None
missed c other =
    let v = c.args.variable in
    let k = c.args.state in
    ap (option_map (λ (r : Reading). r.number))
    (halves_missed (matches v k) rank (ranked v k) (λ r. matches_rank v k r c.requires.small.0) c.args.list.now c.partition_point-place.result (point c) c.requires.rises other)

pub returns-in_err-found : goal.returns-in_err-found
returns-in_err-found c =
    let past : length c.args.list.now ≤ c.partition_point-place.result = search rules in
    c.from_residual.ensures ∙ sym (missed (goal.at.returns-in_err-found c).After-partition_point-place (λ d h. absurd (omega arith)))

pub returns-then-rank-wanted : goal.returns-then-rank-wanted
returns-then-rank-wanted c =
    let v = c.args.variable in
    let k = c.args.state in
    let r = c.in_ok-found.found.now in
    let inside : c.partition_point-place.result < length c.args.list.now = search rules in
    let here : r ≡ get_or c.args.list.now c.partition_point-place.result r = search rules in
    let same = ap rank (sym here) ∙ sym c.rank.ensures ∙ c.if-rank-wanted.true ∙ c.ranked-wanted.ensures in
    let met =
    halves_met (matches v k) rank (ranked v k) (λ r. matches_rank v k r c.requires.small.0) c.args.list.now c.partition_point-place.result
    (point (goal.at.returns-then-rank-wanted c).After-partition_point-place) r inside same ∙ ap (λ (x : Reading). Some x) (sym here) in
    let all = ap (option_map (λ (r : Reading). r.number)) met in
    search rules

pub returns-else-rank-wanted : goal.returns-else-rank-wanted
returns-else-rank-wanted c =
    let inside : c.partition_point-place.result < length c.args.list.now = search rules in
    let here : (d : Reading) → c.in_ok-found.found.now ≡ get_or c.args.list.now c.partition_point-place.result d =
    get_or_read c.args.list.now c.partition_point-place.result c.in_ok-found.found.now inside (search rules) in
    sym (missed (goal.at.returns-else-rank-wanted c).After-partition_point-place
    (λ d h e. c.if-rank-wanted.false (c.rank.ensures ∙ ap rank (here d) ∙ e ∙ sym c.ranked-wanted.ensures)))
