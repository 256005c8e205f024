-- `entry_code::bits_in` meets its contract. Assumes nothing.
use mathlib.Core.Path.{refl}
use native.Mathlib.Omega.{arith}
use Rattle.entry_code.specs.Code.{bits_in}
use Rattle.entry_code.proofs.bits_in.Goals as goal

pub returns : goal.returns
unfolding bits_in
returns c = (refl, omega arith)
