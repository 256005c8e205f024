-- `easy::carry_of` meets its contract. Assumes nothing.
use Prim.Native.Nat.{◌^◌, ◌≤◌}
use native.Mathlib.Omega.{arith}
use lib.Pow.{pow_mono}
use Rattle.easy.proofs.carry_of.Goals as goal

pub overflow_sub-result : goal.overflow_sub-result
overflow_sub-result c =
    let h : 2 ^ c.args.p ≤ 2 ^ c.args.q = pow_mono c.requires.0 in
    rw (c.ones.ensures, c.ones-then-signed.ensures) (omega arith)

pub returns-then-signed : goal.returns-then-signed
returns-then-signed c = rw (c.if-signed.true, c.ones.ensures, c.ones-then-signed.ensures)
