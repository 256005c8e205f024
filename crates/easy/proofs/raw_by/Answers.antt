-- `easy::raw_by` meets its contract. Assumes nothing.
use mathlib.Core.Path.{◌≡◌}
use Prim.Native.Nat.{suc, ◌-◌}
use native.Mathlib.Omega.{arith}
use Rattle.easy.proofs.raw_by.Goals as goal

pub returns-then-order-eq-EASY_LE : goal.returns-then-order-eq-EASY_LE
returns-then-order-eq-EASY_LE c = rw c.if-order-eq-EASY_LE.true c.bits_le.ensures

pub returns : goal.returns
returns c =
    let e : c.args.order - 1 ≡ suc (c.args.order - 2) = omega (arith, c.requires.1, c.if-order-eq-EASY_LE.false) in
    rw e c.bits_be.ensures
