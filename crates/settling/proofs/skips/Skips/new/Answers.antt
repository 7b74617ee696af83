-- Each is filled with zeros, whose clones are zeros.
use Rattle.settling.proofs.skips.Skips.new.Goals as goal

pub returns : goal.returns
returns c = (c.in_ok-duties.ensures.items_if_clones_equal (λ y h. h), c.in_ok-spans.ensures.items_if_clones_equal (λ y h. h))
