-- `paths::numbers::remainder` meets its contract. Assumes nothing.
use mathlib.Core.Path.{◌≡◌, sym}
use native.Mathlib.Nat.{mod-zero}
use native.Mathlib.Omega.{arith}
use Rattle.paths.proofs.numbers.remainder.Goals as goal

pub returns-else-b-gt0 : goal.returns-else-b-gt0
returns-else-b-gt0 c = let e : c.args.b ≡ 0 = omega arith in rw e (sym (mod-zero c.args.a))
