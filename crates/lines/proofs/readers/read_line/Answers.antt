use Rattle.std.proofs.Common.{sym, ap, ◌∙◌}
use Rattle.text.specs.Cut.{pieces_from, KeyAt}
use Rattle.sheet.specs.PartialSheet.{partial_sheet_of}
use Rattle.lines.specs.declared.items.Fault.{Fault}
use Rattle.lines.specs.Lines.{Cut, item_of}
use Rattle.lines.proofs.KeyAndWords.{line_read, line_admitted, taken_out}
use Rattle.lines.proofs.readers.read_line.Goals as goal

pub returns : goal.returns
returns c =
    let d = partial_sheet_of c.args.draft.now in
    let s = c.new-reader.result in
    let r = c.key.new.self in
    let key = taken_out (KeyAt s.text s.place r.place) c.key.result c.in_ok-word.word Fault.Key c.in_ok-word.ensures.value c.key.ensures.cases in
    let words = taken_out (λ o. Cut o (pieces_from 32 r.text.now r.place)) c.cut_words.result c.in_ok-words.words Fault.Form c.in_ok-words.ensures.value c.cut_words.ensures in
    let e = line_read d s.text c.args.line r.text c.in_ok-word.word s.place r.place
    c.new-reader.ensures.text c.new-reader.ensures.place c.key.ensures.text c.if-line-gt-LONGEST_LINE.false key in
    c.read_item.ensures ∙ ap (item_of d c.in_ok-key.key) (sym words) ∙ sym (e ∙ line_admitted d c.keyword.result _ c.in_ok-ok_or.field-0 c.in_ok-key.key _ c.keyword.ensures c.in_ok-ok_or.ensures.value c.in_ok-key.ensures)
