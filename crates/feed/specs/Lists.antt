-- What a list of records reads, and the order of its records. Assumes nothing.
use Rattle.std.specs.Prelude.{ℕ, ◌+◌, ◌*◌, min, Bool, ◌&&◌, List, ℤ, Option, ◌==◌}
use Rattle.std.specs.List.{find}
use Rattle.std.specs.Option.{option_map}
use Rattle.feed.specs.declared.list.Reading.{Reading}
use Rattle.feed.specs.Readings.{within_domain}

-- whether a record is for this variable and this state
abbrev pub matches : ℕ → ℕ → Reading → Bool
matches variable state r = r.state == state && r.variable == variable

-- the number of the first record for this variable and this state
abbrev pub first_reading : List Reading → ℕ → ℕ → Option ℤ
first_reading rs variable state = option_map (λ (r : Reading). r.number) (find (matches variable state) rs)

-- what a list of records reads: the first record counts, and one outside the ranges never does
abbrev pub list_reads : List Reading → ℕ → ℕ → Option ℤ
list_reads rs variable state = within_domain variable state (first_reading rs variable state)

-- where a variable and a state stand in the order of states, and of variables in a state; all variables above 15 count alike
abbrev pub ranked : ℕ → ℕ → ℕ
ranked variable state = 17 * state + min variable 16

-- where a record stands
abbrev pub rank : Reading → ℕ
rank r = ranked r.variable r.state
