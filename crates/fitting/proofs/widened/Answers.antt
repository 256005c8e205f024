-- `fitting::widened` meets its contract. Assumes nothing.
use Prim.Native.Nat.{◌^◌, ◌≤◌}
use native.Mathlib.Omega.{arith}
use lib.Pow.{pow_mono}
use Rattle.number.proofs.Widen.{widen_lt, widen_signed}
use Rattle.fitting.proofs.widened.Goals as goal

pub overflow_sub-result : goal.overflow_sub-result
overflow_sub-result c =
    let h : 2 ^ c.args.p ≤ 2 ^ c.args.q = pow_mono c.requires.1 in
    rw (c.ones.ensures, c.ones-2.ensures) (omega arith)

pub returns : goal.returns
returns c =
    let a = c.args in
    rw (c.ones.ensures, c.ones-2.ensures) (
      widen_signed a.p a.q a.raw c.requires.0 c.requires.1 c.requires.3,
      widen_lt a.p a.q a.raw c.requires.0 c.requires.1 c.requires.3,
    )
