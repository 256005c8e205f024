-- `number_leaf::number_kind` meets its contract. Assumes nothing.
use Rattle.number_leaf.proofs.number_kind.Goals as goal

pub number_bits-fit-requires : goal.number_bits-fit-requires
number_bits-fit-requires c = rw (c.layout_at.ensures.0, c.layout_at-m.ensures.0) (c.requires.0, c.requires.1, c.requires.2)

pub returns : goal.returns
returns c = rw (← c.layout_at.ensures.0, ← c.layout_at-m.ensures.0, ← c.number_bits-fit.ensures.0)
