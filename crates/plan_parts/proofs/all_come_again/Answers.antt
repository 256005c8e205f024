-- `plan_parts::all_come_again` meets its contract. The invariant: each entry before i comes again. Assumes nothing.
use mathlib.Core.Bool.{false≢true}
use Prim.Native.Nat.{◌-◌}
use native.Mathlib.Nat.{not-suc-le-zero}
use native.Mathlib.Omega.{arith}
use Rattle.plan_parts.specs.Again.{Again}
use Rattle.plan_parts.proofs.Search.{one_more}
use Rattle.plan_parts.proofs.all_come_again.Goals as goal

pub loop-i-init : goal.loop-i-init
loop-i-init c = λ j h. absurd (not-suc-le-zero h)

pub loop-i-preserved : goal.loop-i-preserved
loop-i-preserved c =
    let a = c.args in
    let l = c.loop-i in
    one_more (λ j. Again a.plan.now a.part_entries a.source_part a.destination_part a.source_half.now a.destination_half.now j) l.i l.invariant (c.comes_again.ensures c.if-not-comes_again.false)

pub returns-then-not-comes_again : goal.returns-then-not-comes_again
returns-then-not-comes_again c e = absurd (false≢true e)

pub returns : goal.returns
returns c e j h = c.loop-i.invariant j (omega arith)
