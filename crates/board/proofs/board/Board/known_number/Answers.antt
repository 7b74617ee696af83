-- Every number that is known is in its range, so none is passed over. What is told at once is right for every end, so for the span's.
use Rattle.std.proofs.Common.{◌≡◌, ℕ, ℤ, None, Option, ap, ◌∙◌, rules, vec_items}
use Rattle.sheet.specs.declared.kept.Sheet.{Sheet}
use Rattle.value.specs.declared.end.End.{End}
use Rattle.value.specs.Values.{known_at}
use Rattle.value.specs.Evaluating.{partial_value}
use Rattle.value.proofs.WorkingOut.{partial_value_kept}
use Rattle.meaning.specs.Intervals.{under}
use Rattle.meaning.specs.WellFormed.{FitSays}
use Rattle.board.specs.declared.board.Board.{Board}
use Rattle.board.specs.Work.{work_of}
use Rattle.board.proofs.Searching.{known_values}
use Rattle.board.proofs.board.Board.known_number.Goals as goal
use Rattle.sheet.specs.ContentOf.{content_of}

abbrev silence : ℕ → ℕ → Option ℤ
silence x k = None

-- what is known of a number, from the values as they are kept, is what is known from those that are held
held_partial_value : (s : Sheet) (b : Board) (end : End) (i : ℕ) → ((f : ℕ → ℕ → Option ℤ) (x : ℕ) → FitSays (under (content_of s) f) x ((work_of b).known x))
    → partial_value s b.values end i ≡ known_at (vec_items s.tables.expressions) (work_of b).known end i
held_partial_value s b end i fit =
    ap (λ (f : ℕ → Option ℤ). known_at (vec_items s.tables.expressions) f end i) (known_values (under (content_of s) silence) b.values (fit silence))

pub returns-in-Ok : goal.returns-in-Ok
returns-in-Ok c =
    let b = c.args.self.now in
    let s = c.args.sheet.now in
    let end = (work_of b).ends c.args.serial in
    partial_value_kept s b.values end c.args.expression c.in-Ok.z (c.in-Ok.ensures end) ∙ held_partial_value s b end c.args.expression c.requires

pub returns-in-Err-Unknown : goal.returns-in-Err-Unknown
returns-in-Err-Unknown c =
    let b = c.args.self.now in
    let s = c.args.sheet.now in
    let end = (work_of b).ends c.args.serial in
    let told = c.in-Err-Unknown.ensures end in
    let same = held_partial_value s b end c.args.expression c.requires in
    search rules

pub returns-in-Err-More : goal.returns-in-Err-More
returns-in-Err-More c =
    let b = c.args.self.now in
    let s = c.args.sheet.now in
    c.evaluate.ensures.answer ∙ held_partial_value s b c.end_of.result c.args.expression c.requires
    ∙ ap (λ (e : End). known_at (vec_items s.tables.expressions) (work_of b).known e c.args.expression) c.end_of.ensures
