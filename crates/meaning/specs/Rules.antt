-- What a visit to a duty and a visit to a span do. Assumes nothing.
use Rattle.std.specs.Prelude.{ℕ, zero, suc, cond, ℤ, pos, negsuc, Some, None, Option}
use Rattle.sheet.specs.declared.elements.Statement.{Statement}
use Rattle.sheet.specs.declared.elements.Statement.TheVariants.{True, False, Empty, More, Is, And, If, Next, Always, Halt, Len, Gets, Chop, For, While, Request}
use Rattle.value.specs.declared.end.End.{End}
use Rattle.value.specs.declared.end.End.TheVariants.{Unknown, On, Last}
use Rattle.value.specs.Values.{truth, known_at}
use Rattle.meaning.specs.declared.duties.Duty.{Duty}
use Rattle.meaning.specs.declared.duties.Opening.{Opening}
use Rattle.meaning.specs.declared.duties.Span.{Span}
use Rattle.meaning.specs.declared.duties.Stop.TheVariants.{Contradiction}
use Rattle.meaning.specs.Intervals.{Setting, statement_at}
use Rattle.meaning.specs.Work.{Work, Outcome, stops, unchanged, and_then, plain, numbered}
use Rattle.meaning.specs.Effects.{give, put, add, carry, open_span}

-- what is known of the number of expression e, for a duty
abbrev pub known_for : Setting → Work → Duty → ℕ → Option ℤ
known_for S w d e = known_at S.sheet.expressions w.known (w.ends d.span) e

-- what to do with a number, once it is known
abbrev pub once_known : Option ℤ → (ℤ → Work → Outcome) → Work → Outcome
once_known None f w = unchanged w
once_known (Some v) f w = f v w

-- what to do where a span is on
abbrev pub when_on : End → (Work → Outcome) → Work → Outcome
when_on Unknown f w = unchanged w
when_on On f w = f w
when_on Last f w = unchanged w

-- the span that a `chop` opens runs its first part, and the second part follows
abbrev pub chop_opening : Duty → ℕ → ℕ → Opening
chop_opening d p q = record { by = d.statement; body = p; starts = Unknown; follower = plain q d.span }

-- the span that a `for` opens runs one round, and n rounds follow
abbrev pub for_opening : Duty → ℕ → ℕ → Opening
for_opening d p n = record { by = d.statement; body = p; starts = Unknown; follower = numbered d.statement (pos n) d.span }

-- the span that a `while` opens runs one round, has more than this state, and the `while` itself follows
abbrev pub while_opening : Duty → ℕ → Opening
while_opening d p = record { by = d.statement; body = p; starts = On; follower = plain d.statement d.span }

-- `halt`, whose expression is v: last if v is not 0, else on, and carried
abbrev pub halt_rule : Duty → ℤ → Work → Outcome
halt_rule d v w = cond (truth v) (put d.statement Last d.span w) (and_then (put d.statement On d.span w) (carry d))

-- `len` with c states left: none is last, some are on, and one less is carried; less than none is a contradiction
abbrev pub len_rule : Duty → ℤ → Work → Outcome
len_rule d (pos zero) w = put d.statement Last d.span w
len_rule d (pos (suc n)) w = and_then (put d.statement On d.span w) (carry (numbered d.statement (pos n) d.span))
len_rule d (negsuc n) w = stops (Contradiction d.statement)

-- `gets`, whose expression is v: the value is carried, and then the duty itself
abbrev pub gets_rule : Duty → ℤ → Work → Outcome
gets_rule d v w = and_then (carry (numbered d.statement v d.span) w) (carry d)

-- `for` with c rounds of p to go: none, or less than none, is last; else a span for the first of them
abbrev pub for_rule : Duty → ℕ → ℤ → Work → Outcome
for_rule d p (pos zero) w = put d.statement Last d.span w
for_rule d p (pos (suc n)) w = open_span (for_opening d p n) w
for_rule d p (negsuc n) w = put d.statement Last d.span w

-- `while`, whose expression is v: a span for a round of p if v is not 0, else last
abbrev pub while_rule : Duty → ℕ → ℤ → Work → Outcome
while_rule d p v w = cond (truth v) (open_span (while_opening d p) w) (put d.statement Last d.span w)

-- the rule of a statement, for a duty with the number o, at state k
abbrev pub rule : Setting → ℕ → Statement → Option ℤ → Duty → Work → Outcome
rule S k True o d w = unchanged w
rule S k False o d w = stops (Contradiction d.statement)
rule S k Empty o d w = put d.statement Last d.span w
rule S k More o d w = put d.statement On d.span w
rule S k (Is x e) o d w = once_known (known_for S w d e) (give S d.statement x) w
rule S k (And p q) o d w = and_then (add (plain p d.span) w) (add (plain q d.span))
rule S k (If e p q) o d w = once_known (known_for S w d e) (λ v. add (plain (cond (truth v) p q) d.span)) w
rule S k (Next p) o d w = and_then (put d.statement On d.span w) (carry (plain p d.span))
rule S k (Always p) o d w = and_then (add (plain p d.span) w) (λ u. when_on (u.ends d.span) (carry d) u)
rule S k (Halt e) o d w = once_known (known_for S w d e) (halt_rule d) w
rule S k (Len e) None d w = once_known (known_for S w d e) (len_rule d) w
rule S k (Len e) (Some c) d w = len_rule d c w
rule S k (Gets x e) None d w = when_on (w.ends d.span) (once_known (known_for S w d e) (gets_rule d)) w
rule S k (Gets x e) (Some v) d w = give S d.statement x v w
rule S k (Chop p q) o d w = open_span (chop_opening d p q) w
rule S k (For e p) None d w = once_known (known_for S w d e) (λ c. add (numbered d.statement c d.span)) w
rule S k (For e p) (Some c) d w = for_rule d p c w
rule S k (While e p) o d w = once_known (known_for S w d e) (while_rule d p) w
rule S k (Request x) o d w = once_known (S.readings x k) (give S d.statement x) w

-- a visit to a duty
abbrev pub visit : Setting → ℕ → Duty → Work → Outcome
visit S k d w = rule S k (statement_at S d.statement) d.number d w

-- a visited span with serial s takes "last" from its outer span, by what is known of the end of that
abbrev pub inherit_last : End → ℕ → ℕ → Work → Outcome
inherit_last Unknown p s w = unchanged w
inherit_last On p s w = unchanged w
inherit_last Last p s w = put p Last s w

-- a visited span gives "on" to its outer span, or, once it is last, adds what follows it, by what is known of its own end
abbrev pub give_on : End → Opening → Work → Outcome
give_on Unknown g w = unchanged w
give_on On g w = put g.by On g.follower.span w
give_on Last g w = add g.follower w

-- a visit to the span with serial s: the whole interval has nothing around it, and nothing follows it
abbrev pub visit_opened : Option Opening → ℕ → Work → Outcome
visit_opened None s w = unchanged w
visit_opened (Some g) s w = and_then (inherit_last (w.ends g.follower.span) g.by s w) (λ u. give_on (u.ends s) g u)

-- a visit to a span
abbrev pub visit_span : Span → Work → Outcome
visit_span t w = visit_opened t.opening t.serial w
