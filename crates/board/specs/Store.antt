-- The work that plain tables hold: a list of values, and spans with their ends. Assumes nothing.
use Rattle.std.specs.Prelude.{ℕ, suc, Bool, false, if◌then◌else◌, ◌&&◌, List, [], ◌∷◌, map, ℤ, None, Option, ◌==◌, nat_le, slice_index_or}
use Rattle.value.specs.declared.end.End.{End}
use Rattle.value.specs.declared.end.End.TheVariants.{Unknown, On, Last}
use Rattle.meaning.specs.declared.duties.Duty.{Duty}
use Rattle.meaning.specs.declared.duties.Span.{Span}
use Rattle.meaning.specs.Work.{Work}
use Rattle.board.specs.declared.row.Row.{Row}

-- the span of a row
abbrev pub span_of : Row → Span
span_of r = r.span

-- whether a row is that of the span with serial s
abbrev pub has_serial : ℕ → Row → Bool
has_serial s r = r.span.serial == s

-- the end of the span with serial s, by the rows
abbrev pub ends_of : List Row → ℕ → End
ends_of [] s = Unknown
ends_of (r ∷ l) s = if r.span.serial == s then r.end else ends_of l s

-- what the tables hold
pub record Store : Type 0 where
  pub values : List (Option ℤ)
  pub rows : List Row
  pub duties : List Duty
  pub later : List Duty
  pub next : ℕ

-- the work that this is
abbrev pub work : Store → Work
work m = record { known = λ x. slice_index_or m.values x None; ends = ends_of m.rows; spans = map span_of m.rows; duties = m.duties; later = m.later; next = m.next }

-- whether the serials of rows rise from low on, and stay below high
abbrev pub rising : ℕ → List Row → ℕ → Bool
rising low [] high = nat_le low high
rising low (r ∷ l) high = nat_le low r.span.serial && rising (suc r.span.serial) l high

-- a row as the next state starts with it: no longer fresh, its end unknown; kept only if the span goes on
abbrev pub kept_row : End → Row → List Row → List Row
kept_row Unknown r l = l
kept_row On r l = record { span = record { serial = r.span.serial; opening = r.span.opening; fresh = false }; end = Unknown } ∷ l
kept_row Last r l = l

-- the rows that the next state starts with
abbrev pub kept_rows : List Row → List Row
kept_rows [] = []
kept_rows (r ∷ l) = kept_row r.end r (kept_rows l)
