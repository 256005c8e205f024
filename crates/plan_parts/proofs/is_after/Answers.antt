-- `plan_parts::is_after` meets its contract. Assumes nothing.
use mathlib.Core.Bool.{false≢true}
use Prim.Native.Nat.{◌-◌}
use native.Mathlib.Omega.{arith}
use borrow.Author.Tests.{eqb-true}
use Rattle.plan_parts.proofs.is_after.Goals as goal

pub returns-then-y-x : goal.returns-then-y-x
returns-then-y-x c e = absurd (false≢true e)

pub returns : goal.returns
returns c e = omega (arith, eqb-true (c.args.y - c.args.x) c.args.more e, c.if-y-x.false)
