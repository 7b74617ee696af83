-- The buckets in which duties and openings are looked for. Assumes nothing.
use Rattle.std.specs.Prelude.{ℕ, ◌+◌, ◌*◌, ◌-◌, ◌%◌, ◌^◌, Bool, true, false, if◌then◌else◌, List, Some, None, Option, ◌==◌, pos, unwrap_or, slice_index, slice_index_or}
use Rattle.std.specs.List.{list_all}
use Rattle.std.specs.Int.{w64, cast_unsigned}
use Rattle.meaning.specs.declared.duties.Duty.{Duty}
use Rattle.meaning.specs.declared.duties.Opening.{Opening}
use Rattle.meaning.specs.declared.duties.Span.{Span}
use Rattle.board.specs.declared.row.Row.{Row}

-- the bucket of a duty, one of 2,048
abbrev pub bucket : Duty → ℕ
bucket d = (d.statement * 67 + d.span * 643 + cast_unsigned w64 (unwrap_or d.number (pos 0)) % 2048) % 2048

-- the place of what came after m others, where n had come before the first of the list; counts wrap around at 2^32
abbrev pub place_after : ℕ → ℕ → ℕ
place_after n m = (m + (2 ^ 32 - n)) % 2 ^ 32

-- where a duty is looked for: in its bucket
abbrev pub duty_in : Duty → Option ℕ
duty_in d = Some (bucket d)

-- the bucket of what follows a span that was opened so
abbrev pub followed_in : Option Opening → Option ℕ
followed_in None = None
followed_in (Some g) = Some (bucket g.follower)

-- where a span is looked for: in the bucket of what follows it, and only in the state that opened it
abbrev pub opened_in : Span → Option ℕ
opened_in t = if t.fresh then followed_in t.opening else None

-- and so its row
abbrev pub row_in : Row → Option ℕ
row_in r = opened_in r.span

-- whether something is looked for in bucket b
abbrev pub is_in : ℕ → Option ℕ → Bool
is_in b None = false
is_in b (Some c) = c == b

-- a table has a place of a list for each bucket: whether at the place for the bucket of an item stands an item of that bucket; l has the buckets of the items
abbrev pub leads : List ℕ → List (Option ℕ) → Option ℕ → Bool
leads places l None = true
leads places l (Some b) = is_in b (slice_index_or l (slice_index places b) None)

-- whether that is so for every item
abbrev pub all_lead : List ℕ → List (Option ℕ) → Bool
all_lead places l = list_all (leads places l) l
