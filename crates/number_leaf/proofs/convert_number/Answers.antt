-- `number_leaf::convert_number` meets its contract. Assumes nothing.
use mathlib.Core.Path.{refl}
use Rattle.number_leaf.proofs.convert_number.Goals as goal

pub number_bits-fit-requires : goal.number_bits-fit-requires
number_bits-fit-requires c = rw (c.layout_at-l.ensures.0, c.layout_at-m.ensures.0) (c.requires.0, c.requires.1, c.requires.2)

pub store-requires : goal.store-requires
store-requires c = (rw c.layout_at-m.ensures.0 c.requires.1, rw c.layout_at-m.ensures.0 c.requires.3, c.number_bits-fit.ensures.1)

pub returns : goal.returns
returns c = rw (← c.layout_at-l.ensures.0, ← c.layout_at-m.ensures.0, ← c.number_bits-fit.ensures.0) (refl, c.store.ensures)
