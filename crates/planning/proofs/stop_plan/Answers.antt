-- `planning::stop_plan` meets its contract. The invariant: the entries so far, and then those of the bytes from b on, are the plan. Assumes nothing.
use native.Mathlib.Omega.{arith}
use Rattle.planning.proofs.StopPlans.{going_start, going_inside, going_most, going_asked, going_some, going_step, going_next, going_done}
use Rattle.planning.proofs.stop_plan.Goals as goal

pub loop-byte-init : goal.loop-byte-init
loop-byte-init c = going_start _ _ _ _ _ _ _ _ c.type_word-bytes.ensures c.requires.2

pub match_at-found-requires : goal.match_at-found-requires
match_at-found-requires c =
    let pre = c.requires in
    (pre.0, pre.1, going_inside _ _ _ _ _ _ _ pre.0 pre.1 c.loop-byte.invariant c.loop-byte-test.true)

pub add_entry-entries-requires : goal.add_entry-entries-requires
add_entry-entries-requires c =
    let pre = c.requires in
    going_asked _ _ _ _ _ _ _ pre.0 pre.1 c.loop-byte.invariant c.match_at-found.ensures c.stop_match-m.ensures c.loop-byte-test.true

pub overflow_add-byte : goal.overflow_add-byte
overflow_add-byte c =
    let pre = c.requires in
    omega (arith, going_step _ _ _ _ _ _ _ pre.0 pre.1 c.loop-byte.invariant c.match_at-found.ensures c.stop_match-m.ensures c.step_of-byte.ensures, going_most _ _ _ _ _ _ _ pre.0 pre.1 c.loop-byte.invariant)

pub loop-byte-smaller : goal.loop-byte-smaller
loop-byte-smaller c =
    let pre = c.requires in
    omega (arith, going_some _ _ _ _ _ _ _ pre.0 pre.1 c.loop-byte.invariant c.match_at-found.ensures c.stop_match-m.ensures c.step_of-byte.ensures, c.loop-byte-test.true)

pub loop-byte-preserved : goal.loop-byte-preserved
loop-byte-preserved c =
    let pre = c.requires in
    going_next _ _ _ _ _ _ _ pre.0 pre.1 c.loop-byte.invariant c.match_at-found.ensures c.stop_match-m.ensures c.step_of-byte.ensures c.add_entry-entries.ensures

pub returns : goal.returns
returns c =
    let pre = c.requires in
    going_done _ _ _ _ _ _ _ pre.0 pre.1 c.loop-byte.invariant c.loop-byte-test.false
