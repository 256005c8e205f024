-- `entry_code::shift_in` meets its contract. Assumes nothing.
use mathlib.Core.Path.{refl}
use native.Mathlib.Omega.{arith}
use Rattle.entry_code.specs.Code.{shift_in}
use Rattle.entry_code.proofs.shift_in.Goals as goal

pub returns : goal.returns
unfolding shift_in
returns c = (refl, omega arith)
