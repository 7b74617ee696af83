-- The line of an answer, without its end: the call's word, `=`, and what the answer tells. Assumes nothing.
use Rattle.std.specs.Prelude.{ℕ, List, [], ◌∷◌, ◌++◌, if◌then◌else◌, codes, decimal, nat_lt}
use Rattle.std.specs.Fmt.{signed_decimal}
use Rattle.calls.specs.declared.answers.Report.{Report}
use Rattle.calls.specs.Published.{Value, count, state, statement, variable, line, word, PublishedAnswer, done, found, is_idle, is_open, is_finished, is_abandoned, numbered, published, CallAnswer as Answered, to_load, to_begin, to_advance, to_abandon, to_report, to_look}
use Rattle.script.specs.declared.answer.Answer.{Answer}

-- the number that a value is
abbrev pub amount : Value → ℕ
amount (count n) = n
amount (state n) = n
amount (statement n) = n
amount (variable n) = n
amount (line n) = n
amount (word n) = n

-- values, each behind a space
abbrev pub values_text : List Value → List ℕ
values_text [] = []
values_text (v ∷ vs) = 32 ∷ decimal (amount v) ++ values_text vs

-- a published number with its values: 1 to 12 is a refusal, 20 to 25 a denial, which is told without values, and 31 to 34 a stop
abbrev pub numbered_text : ℕ → List Value → List ℕ
numbered_text n vs =
    if nat_lt n 20 then codes "refused " ++ decimal n ++ values_text vs
    else if nat_lt n 30 then codes "denied " ++ decimal n
    else codes "stop " ++ decimal n ++ values_text vs

-- what an answer tells
abbrev pub published_text : PublishedAnswer → List ℕ
published_text done = codes "ok"
published_text (found z) = signed_decimal z
published_text is_idle = codes "idle"
published_text (is_open vs) = codes "open" ++ values_text vs
published_text (is_finished vs) = codes "finished" ++ values_text vs
published_text is_abandoned = codes "abandoned"
published_text (numbered n vs) = numbered_text n vs

-- the call's word, with `=`
abbrev pub answer_key : Answer → List ℕ
answer_key (Answer.Load r) = codes "sheet="
answer_key (Answer.Begin r) = codes "begin="
answer_key (Answer.Advance r) = codes "advance="
answer_key (Answer.Abandon r) = codes "abandon="
answer_key (Answer.Report r) = codes "report="
answer_key (Answer.Look r) = codes "look="

-- the answer of the call
abbrev pub call_answer : Answer → Answered
call_answer (Answer.Load r) = to_load r
call_answer (Answer.Begin r) = to_begin r
call_answer (Answer.Advance r) = to_advance r
call_answer (Answer.Abandon r) = to_abandon r
call_answer (Answer.Report r) = to_report r
call_answer (Answer.Look r) = to_look r

-- a report of a run that has ended says so ahead of how
abbrev pub ahead : Answered → List ℕ
ahead (to_load r) = []
ahead (to_begin r) = []
ahead (to_advance r) = []
ahead (to_abandon r) = []
ahead (to_report Report.Idle) = []
ahead (to_report (Report.Open n)) = []
ahead (to_report (Report.Ended e)) = codes "ended "
ahead (to_look r) = []

-- the line of an answer
abbrev pub answer_text : Answer → List ℕ
answer_text a = answer_key a ++ ahead (call_answer a) ++ published_text (published (call_answer a))
