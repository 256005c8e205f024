-- `entry_code::route_in` meets its contract. Assumes nothing.
use mathlib.Core.Path.{refl}
use native.Mathlib.Omega.{arith}
use Rattle.entry_code.specs.Code.{route_in}
use Rattle.entry_code.proofs.route_in.Goals as goal

pub returns : goal.returns
unfolding route_in
returns c = (refl, omega arith)
