-- The five effects that a visit can have: it gives a variable its number, puts a span's end, adds a duty, carries one, or opens a span.
-- The first two can meet a contradiction, which is placed at statement p; the others can find their list full. Assumes nothing.
use Rattle.std.specs.Prelude.{ℕ, suc, Bool, true, cond, ◌&&◌, [], ◌∷◌, ◌++◌, length, ℤ, Some, None, Option, nat_lt}
use Rattle.value.specs.declared.end.End.{End}
use Rattle.value.specs.declared.end.End.TheVariants.{Unknown, On, Last}
use Rattle.value.specs.Values.{equal_numbers}
use Rattle.meaning.specs.declared.duties.Duty.{Duty}
use Rattle.meaning.specs.declared.duties.Opening.{Opening}
use Rattle.meaning.specs.declared.duties.Stop.TheVariants.{Contradiction, Crowded}
use Rattle.meaning.specs.Intervals.{Setting, value_fits}
use Rattle.meaning.specs.Work.{Work, Outcome, stops, unchanged, changed, set_at, plain, has_duty, has_opened}

-- the most duties in a list
abbrev pub most_duties : ℕ
most_duties = 512

-- the most spans that are held at once
abbrev pub most_spans : ℕ
most_spans = 64

-- the work in which variable x has the number v
abbrev pub with_value : ℕ → ℤ → Work → Work
with_value x v w = record { known = set_at w.known x (Some v); ends = w.ends; spans = w.spans; duties = w.duties; later = w.later; next = w.next }

-- the work in which the end of span s is e
abbrev pub with_end : End → ℕ → Work → Work
with_end e s w = record { known = w.known; ends = set_at w.ends s e; spans = w.spans; duties = w.duties; later = w.later; next = w.next }

-- the work with one duty more
abbrev pub with_duty : Duty → Work → Work
with_duty d w = record { known = w.known; ends = w.ends; spans = w.spans; duties = w.duties ++ d ∷ []; later = w.later; next = w.next }

-- the work with one duty more for the next state
abbrev pub with_later : Duty → Work → Work
with_later d w = record { known = w.known; ends = w.ends; spans = w.spans; duties = w.duties; later = w.later ++ d ∷ []; next = w.next }

-- the work with one span more, which runs its body
abbrev pub with_span : Opening → Work → Work
with_span g w = record {
  known = w.known;
  ends = set_at w.ends w.next g.starts;
  spans = w.spans ++ record { serial = w.next; opening = Some g; fresh = true } ∷ [];
  duties = w.duties ++ plain g.body w.next ∷ [];
  later = w.later;
  next = suc w.next;
}

-- a work that is larger than the one before it, if there was room for it
abbrev pub if_room : Bool → Work → Outcome
if_room room w = cond room (changed w) (stops Crowded)

-- to give variable x the number v, by what is known of x: a new number must lie in the range, and a second one must be the same
abbrev pub give_by : Setting → ℕ → Option ℤ → ℕ → ℤ → Work → Outcome
give_by S p None x v w = cond (value_fits S x v) (changed (with_value x v w)) (stops (Contradiction p))
give_by S p (Some u) x v w = cond (equal_numbers u v) (unchanged w) (stops (Contradiction p))

abbrev pub give : Setting → ℕ → ℕ → ℤ → Work → Outcome
give S p x v w = give_by S p (w.known x) x v w

-- to put an end of span s, by what is known of it: on and last contradict each other; to put an unknown end, which no rule does, is to do nothing
abbrev pub put_by : ℕ → End → End → ℕ → Work → Outcome
put_by p Unknown Unknown s w = unchanged w
put_by p Unknown On s w = changed (with_end On s w)
put_by p Unknown Last s w = changed (with_end Last s w)
put_by p On Unknown s w = unchanged w
put_by p On On s w = unchanged w
put_by p On Last s w = stops (Contradiction p)
put_by p Last Unknown s w = unchanged w
put_by p Last On s w = stops (Contradiction p)
put_by p Last Last s w = unchanged w

abbrev pub put : ℕ → End → ℕ → Work → Outcome
put p e s w = put_by p (w.ends s) e s w

-- to add a duty to this state's list, once
abbrev pub add : Duty → Work → Outcome
add d w = cond (has_duty d w.duties) (unchanged w) (if_room (nat_lt (length w.duties) most_duties) (with_duty d w))

-- to carry a duty to the next state, once
abbrev pub carry : Duty → Work → Outcome
carry d w = cond (has_duty d w.later) (unchanged w) (if_room (nat_lt (length w.later) most_duties) (with_later d w))

-- to open a span and add the duty of its body; a duty does so once in a state, and its opening tells it from every other duty
abbrev pub open_span : Opening → Work → Outcome
open_span g w = cond (has_opened g w.spans) (unchanged w) (if_room (nat_lt (length w.spans) most_spans && nat_lt (length w.duties) most_duties) (with_span g w))
