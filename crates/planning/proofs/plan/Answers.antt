-- `planning::plan` meets its contract. The invariant: the entries so far, and then those of the bytes from b on, are the plan. Assumes nothing.
use native.Mathlib.Omega.{arith}
use Rattle.paths.proofs.Entries.{found_in, step_some, step_inside, filled_next, plan_laws}
use Rattle.planning.proofs.plan.Goals as goal

pub loop-destination_byte-init : goal.loop-destination_byte-init
loop-destination_byte-init c = search plan_laws

pub overflow_add-destination_byte : goal.overflow_add-destination_byte
overflow_add-destination_byte c =
    let pre = c.requires in
    omega (arith, step_inside _ _ _ _ _ _ c.loop-destination_byte.invariant pre.0 pre.1 (found_in c.match_at-m.ensures) c.step_of-destination_byte.ensures, c.loop-destination_byte.invariant.most)

pub loop-destination_byte-smaller : goal.loop-destination_byte-smaller
loop-destination_byte-smaller c =
    let pre = c.requires in
    omega (arith, step_some _ _ _ _ _ _ c.loop-destination_byte.invariant pre.0 pre.1 (found_in c.match_at-m.ensures) c.step_of-destination_byte.ensures, c.loop-destination_byte-test.true)

pub loop-destination_byte-preserved : goal.loop-destination_byte-preserved
loop-destination_byte-preserved c =
    let pre = c.requires in
    filled_next _ _ _ _ _ _ c.loop-destination_byte.invariant pre.0 pre.1 (found_in c.match_at-m.ensures) c.step_of-destination_byte.ensures c.add_entry-entries.ensures

pub returns : goal.returns
returns c = search plan_laws
