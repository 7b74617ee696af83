-- The line is `reading=`, and then what was read.
use Rattle.std.proofs.Common.{List, ℕ, ◌++◌, drop, sym, ap, subst, ◌∙◌}
use Rattle.std.proofs.lemmas.List.{take-append-drop}
use Rattle.std.specs.Cmp.Lexicographic.{same_text}
use Rattle.script.specs.Spelling.{ReadsReading}
use Rattle.cases.proofs.table.reading_of.Goals as goal

pub returns : goal.returns
returns c =
    let l = c.args.line.now in
    let k = c.in_ok-strip_prefix.ensures.cases in
    let whole = sym (take-append-drop 8 l) ∙ ap (λ (p : List ℕ). p ++ drop 8 l) (same_text _ _ (sym k.0)) in
    let read = subst (λ (w : List ℕ). ReadsReading w c.read_reading.result) k.1 c.read_reading.ensures in
    λ r. (λ e. (whole, ((read r).0 e).0, ((read r).0 e).1), λ (_, w, small). (read r).1 (w, small))
