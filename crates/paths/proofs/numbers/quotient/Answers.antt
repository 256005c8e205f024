-- `paths::numbers::quotient` meets its contract. Assumes nothing.
use mathlib.Core.Path.{◌≡◌, sym}
use native.Mathlib.Nat.{div-zero}
use native.Mathlib.Omega.{arith}
use Rattle.paths.proofs.numbers.quotient.Goals as goal

pub returns-else-b-gt0 : goal.returns-else-b-gt0
returns-else-b-gt0 c = let e : c.args.b ≡ 0 = omega arith in rw e (sym (div-zero c.args.a))
