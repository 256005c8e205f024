-- `real_leaf::real_kind` meets its contract. Assumes nothing.
use Rattle.plans.specs.LeafSteps.{real_becomes}
use Rattle.real_leaf.proofs.real_kind.Goals as goal

pub real_bits-f-requires : goal.real_bits-f-requires
real_bits-f-requires c =
    let h = c.requires in
    rw c.layout_at-m.ensures.0 (h.source, h.destination, h.read, h.real)

pub returns : goal.returns
unfolding real_becomes
returns c = rw (← c.layout_at-m.ensures.0, ← c.real_bits-f.ensures.0)
