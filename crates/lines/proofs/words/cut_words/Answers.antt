use Rattle.std.proofs.Common.{drop, sym, ◌∙◌}
use Rattle.text.proofs.CutsFit.{left_in}
use Rattle.lines.proofs.KeyAndWords.{parted_some}
use Rattle.lines.proofs.words.cut_words.Goals as goal

pub returns-in_err-a : goal.returns-in_err-a
returns-in_err-a c =
    let s = c.args.reader.now in
    absurd (parted_some 32 (drop s.place s.text.now) (sym (left_in 32 s.text.now s.place c.requires) ∙ c.in_err-a.ensures.cases.0))
