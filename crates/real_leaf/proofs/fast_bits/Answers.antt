-- `real_leaf::fast_bits` meets its contract: by whether the source is the real. Assumes nothing.
use mathlib.Core.Path.{◌∙◌}
use Rattle.real_leaf.proofs.fast_bits.Goals as goal

pub returns-then-from_real : goal.returns-then-from_real
returns-then-from_real c = rw c.if-from_real.true c.to_int.ensures.0

pub returns : goal.returns
returns c = rw c.if-from_real.false (c.to_real.ensures.0 ∙ rw c.number_of.ensures)
