use Rattle.std.proofs.Common.{◌≡◌, ◌+◌, ◌-◌, ◌≤◌, length}
use Rattle.text.specs.Cut.{pieces_from}
use Rattle.sheet.specs.PartialSheet.{partial_sheet_of, no_lines}
use Rattle.load.specs.Parsing.{parse_lines}
use Rattle.load.proofs.ItemChains.{Good}
use Rattle.load.proofs.reading.read_lines.Given as goal

abbrev pub invariant-loop-line : goal.invariant-loop-line
invariant-loop-line l =
    (parse_lines l.n (partial_sheet_of l.draft) (pieces_from 10 l.reader.text.now l.reader.place) ≡ parse_lines 2 no_lines (pieces_from 10 l.initial.reader.text.now l.initial.reader.place))
    × (l.reader.text ≡ l.initial.reader.text) × Good (partial_sheet_of l.draft) × (l.n ≤ l.reader.place + 2) × (l.reader.place ≤ length l.reader.text.now + 1)

abbrev pub decreases-loop-line : goal.decreases-loop-line
decreases-loop-line l = length l.reader.text.now + 1 - l.reader.place
