-- `real_numbers::nearest::spare_bits` meets its contract. Assumes nothing.
use mathlib.Core.Path.{◌∙◌}
use native.Mathlib.Omega.{arith}
use Rattle.real_numbers.proofs.Leading.{spare_zeros}
use Rattle.real_numbers.proofs.nearest.spare_bits.Goals as goal

pub returns : goal.returns
returns c = (c.saturating_sub.ensures ∙ spare_zeros _ c.ranges.n.fits, omega arith)
