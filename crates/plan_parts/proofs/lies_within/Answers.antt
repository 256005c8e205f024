-- `plan_parts::lies_within` meets its contract. Assumes nothing.
use mathlib.Core.Bool.{false≢true}
use Prim.Native.Nat.{◌-◌}
use native.Mathlib.Omega.{arith}
use borrow.Author.Tests.{leb-true}
use Rattle.plan_parts.proofs.lies_within.Goals as goal

pub returns-then-part-size : goal.returns-then-part-size
returns-then-part-size c e = absurd (false≢true e)

pub returns : goal.returns
returns c e = omega (arith, leb-true c.args.byte (c.args.part - c.args.size) e, c.if-part-size.false)
