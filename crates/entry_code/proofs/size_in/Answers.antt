-- `entry_code::size_in` meets its contract. Assumes nothing.
use mathlib.Core.Path.{refl}
use native.Mathlib.Omega.{arith}
use Rattle.entry_code.specs.Code.{size_in}
use Rattle.entry_code.proofs.size_in.Goals as goal

pub returns : goal.returns
unfolding size_in
returns c = (refl, omega arith)
