-- `real_leaf::convert_real` meets its contract. Assumes nothing.
use mathlib.Core.Path.{refl}
use Rattle.plans.specs.LeafSteps.{real_becomes}
use Rattle.real_leaf.proofs.convert_real.Goals as goal

pub real_bits-bits-requires : goal.real_bits-bits-requires
real_bits-bits-requires c =
    let h = c.requires.0 in
    rw c.layout_at-m.ensures.0 (h.source, h.destination, h.read, h.real)

pub store-requires : goal.store-requires
store-requires c = (rw c.layout_at-m.ensures.0 c.requires.0.destination, rw c.layout_at-m.ensures.0 c.requires.1, c.real_bits-bits.ensures.1)

pub returns : goal.returns
unfolding real_becomes
returns c = rw (← c.layout_at-m.ensures.0, ← c.real_bits-bits.ensures.0) (refl, c.store.ensures)
