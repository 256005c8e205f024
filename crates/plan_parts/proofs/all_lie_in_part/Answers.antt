-- `plan_parts::all_lie_in_part` meets its contract. The invariant: each entry before i lies in the first part. Assumes nothing.
use mathlib.Core.Bool.{false≢true}
use Prim.Native.Nat.{◌-◌}
use native.Mathlib.Nat.{not-suc-le-zero}
use native.Mathlib.Omega.{arith}
use Rattle.plan_parts.specs.Again.{Lies}
use Rattle.plan_parts.proofs.Search.{one_more}
use Rattle.plan_parts.proofs.all_lie_in_part.Goals as goal

pub loop-i-init : goal.loop-i-init
loop-i-init c = λ j h. absurd (not-suc-le-zero h)

pub loop-i-preserved : goal.loop-i-preserved
loop-i-preserved c =
    let a = c.args in
    let l = c.loop-i in
    one_more (λ j. Lies a.plan.now a.source_part a.destination_part a.source_half.now a.destination_half.now j) l.i l.invariant (c.lies_in_part.ensures c.if-not-lies_in_part.false)

pub returns-then-not-lies_in_part : goal.returns-then-not-lies_in_part
returns-then-not-lies_in_part c e = absurd (false≢true e)

pub returns : goal.returns
returns c e j h = c.loop-i.invariant j (omega arith)
