-- `matching::match_at` meets its contract. The invariant: what is matched at byte b and behind it is what is matched at byte `at` of the types s and d, both
-- well formed to the depth that is left, `from` bytes further in the source. Assumes nothing.
use Prim.Native.Nat.{◌+◌, ◌-◌}
use mathlib.Core.Path.{◌≡◌}
use native.Mathlib.Omega.{arith}
use Rattle.paths.proofs.Walks.{reached_start, turn_few, turn_on, turn_same, turn_past, turn_off, turn_out}
use Rattle.matching.proofs.match_at.Goals as goal

pub loop-init : goal.loop-init
loop-init c =
    let pre = c.requires in
    (reached_start _ _ _ _ _ _ _ pre.0 pre.1 pre.2, omega arith)

pub overflow_add-from : goal.overflow_add-from
overflow_add-from c =
    let v = c.loop.invariant in
    omega (arith, turn_few _ _ _ _ _ _ _ v.0 (omega arith) c.match_step.ensures c.in-On.is)

pub returns-in-Same : goal.returns-in-Same
returns-in-Same c =
    let v = c.loop.invariant in
    let pre = c.requires in
    turn_same _ _ _ _ _ _ _ v.0 (omega arith) c.match_step.ensures pre.0 pre.1 c.in-Same.is

pub overflow_sub-result : goal.overflow_sub-result
overflow_sub-result c = omega (arith, turn_past _ _ _ _ _ _ _ c.loop.invariant.0 (omega arith) c.match_step.ensures c.in-Off.is)

pub returns-in-Off : goal.returns-in-Off
returns-in-Off c = turn_off _ _ _ _ _ _ _ c.loop.invariant.0 (omega arith) c.match_step.ensures c.in-Off.is

pub loop-preserved : goal.loop-preserved
loop-preserved c =
    let v = c.loop.invariant in
    let less : 64 - c.loop.counter - 1 ≡ 64 - (c.loop.counter + 1) = omega arith in (
      rw (← less) (turn_on _ _ _ _ _ _ _ v.0 (omega arith) c.match_step.ensures c.in-On.is),
      omega (arith, turn_few _ _ _ _ _ _ _ v.0 (omega arith) c.match_step.ensures c.in-On.is),
    )

pub returns : goal.returns
returns c = turn_out _ _ _ _ _ _ _ c.loop.invariant.0 (omega arith)
