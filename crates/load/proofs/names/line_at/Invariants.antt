use Rattle.std.proofs.Common.{◌≡◌, drop}
use Rattle.text.specs.Cut.{pieces_from, parted}
use Rattle.load.specs.Naming.{start_of}
use Rattle.load.proofs.names.line_at.Given as goal

abbrev pub invariant-loop-i : goal.invariant-loop-i
invariant-loop-i l =
    (l.reader.text ≡ l.initial.reader.text) × (pieces_from 10 l.text l.reader.place ≡ drop l._i (parted 10 l.text))
    × (l.reader.place ≡ start_of (parted 10 l.text) l._i)
