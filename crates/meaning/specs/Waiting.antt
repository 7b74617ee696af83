-- What visits to duties and to spans wait for. The contracts of the code that settles a state ask for it; no law speaks of it. Assumes nothing.
use Rattle.std.specs.Prelude.{ℕ, Bool, true, false, not, ℤ, Some, None, Option, is_none}
use Rattle.sheet.specs.declared.elements.Statement.{Statement}
use Rattle.sheet.specs.declared.elements.Statement.TheVariants.{True, False, Empty, More, Is, And, If, Next, Always, Halt, Len, Gets, Chop, For, While, Request}
use Rattle.value.specs.declared.end.End.{End}
use Rattle.value.specs.declared.end.End.TheVariants.{Unknown, On, Last}
use Rattle.meaning.specs.declared.duties.Duty.{Duty}
use Rattle.meaning.specs.declared.duties.Opening.{Opening}
use Rattle.meaning.specs.declared.duties.Span.{Span}
use Rattle.meaning.specs.Intervals.{Setting, statement_at}
use Rattle.meaning.specs.Work.{Work}
use Rattle.meaning.specs.Rules.{known_for}
use Rattle.meaning.specs.Runs.{is_ended}

-- whether there is something to wait for: a span that is on, or else what b says
abbrev pub till_on : End → Bool → Bool
till_on Unknown b = true
till_on On b = b
till_on Last b = true

-- whether the rule of a statement, for a duty with the number o, waits: for the number of an expression, for the end of
-- the duty's span, or for both; it may have done a part of its work meanwhile
abbrev pub rule_waits : Setting → Statement → Option ℤ → Duty → Work → Bool
rule_waits S True o d w = false
rule_waits S False o d w = false
rule_waits S Empty o d w = false
rule_waits S More o d w = false
rule_waits S (Is x e) o d w = is_none (known_for S w d e)
rule_waits S (And p q) o d w = false
rule_waits S (If e p q) o d w = is_none (known_for S w d e)
rule_waits S (Next p) o d w = false
rule_waits S (Always p) o d w = not (is_ended (w.ends d.span))
rule_waits S (Halt e) o d w = is_none (known_for S w d e)
rule_waits S (Len e) None d w = is_none (known_for S w d e)
rule_waits S (Len e) (Some c) d w = false
rule_waits S (Gets x e) None d w = till_on (w.ends d.span) (is_none (known_for S w d e))
rule_waits S (Gets x e) (Some v) d w = false
rule_waits S (Chop p q) o d w = false
rule_waits S (For e p) None d w = is_none (known_for S w d e)
rule_waits S (For e p) (Some c) d w = false
rule_waits S (While e p) o d w = is_none (known_for S w d e)
rule_waits S (Request x) o d w = false

-- whether a visit to a duty waits
abbrev pub waits : Setting → Duty → Work → Bool
waits S d w = rule_waits S (statement_at S d.statement) d.number d w

-- whether a visit that leaves the work u waits, for a span with the serial s: for its end; the whole interval waits for nothing
abbrev pub opened_waits : Option Opening → ℕ → Work → Bool
opened_waits None s u = false
opened_waits (Some g) s u = not (is_ended (u.ends s))

-- whether a visit to a span, which leaves the work u, waits
abbrev pub span_waits : Span → Work → Bool
span_waits t u = opened_waits t.opening t.serial u
