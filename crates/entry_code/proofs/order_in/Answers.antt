-- `entry_code::order_in` meets its contract. Assumes nothing.
use mathlib.Core.Path.{refl}
use native.Mathlib.Omega.{arith}
use Rattle.entry_code.specs.Code.{order_in}
use Rattle.entry_code.proofs.order_in.Goals as goal

pub returns : goal.returns
unfolding order_in
returns c = (refl, omega arith)
