-- `entry_code::precision_in` meets its contract. Assumes nothing.
use mathlib.Core.Path.{refl}
use native.Mathlib.Omega.{arith}
use Rattle.entry_code.specs.Code.{precision_in}
use Rattle.entry_code.proofs.precision_in.Goals as goal

pub returns : goal.returns
unfolding precision_in
returns c = (refl, omega arith)
