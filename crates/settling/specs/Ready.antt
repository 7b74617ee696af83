-- Tables in order for a state to begin. Assumes nothing.
use Rattle.std.specs.Prelude.{ℕ, Bool, not, ◌&&◌, List, length, is_none, Some, None, Option, ◌==◌, nat_lt}
use Rattle.std.specs.List.{list_all, list_any}
use Rattle.meaning.specs.declared.duties.Opening.{Opening}
use Rattle.meaning.specs.declared.duties.Span.{Span}
use Rattle.board.specs.Store.{Store, work}

-- whether a span with the serial s is in the list
abbrev pub present : List Span → ℕ → Bool
present l s = list_any (λ t. t.serial == s) l

-- whether a span is in its place: the outer span is older, and still there; only the whole interval, with serial 0, has none
abbrev pub nests : List Span → ℕ → Option Opening → Bool
nests l s None = s == 0
nests l s (Some g) = nat_lt g.follower.span s && present l g.follower.span

-- whether a state may begin with these tables: no number is known and no duty is carried; each duty's span is there, no span is fresh, and each is in its place
abbrev pub ready : Store → Bool
ready m =
    let w = work m in
    list_all is_none m.values && length w.later == 0 && list_all (λ d. present w.spans d.span) w.duties
    && list_all (λ t. not t.fresh && nests w.spans t.serial t.opening) w.spans
