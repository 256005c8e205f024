-- `mask_marking::mark_leaves` meets its contract. The loop's invariant: what is left to mark, from a byte of the destination record on. Assumes nothing.
use native.Mathlib.Omega.{arith}
use Rattle.mask_marking.proofs.Marking.{left_start, match_reached, step_some, step_inside, left_turn, left_end}
use Rattle.mask_marking.proofs.mark_leaves.Goals as goal

pub loop-destination_byte-init : goal.loop-destination_byte-init
loop-destination_byte-init c = left_start _ _ _ _ _ _ c.requires.0 _ c.type_word-bytes.ensures

pub mark_match-requires : goal.mark_match-requires
mark_match-requires c = match_reached _ _ _ _ _ _ c.requires.0 c.loop-destination_byte.invariant c.match_at-m.ensures c.requires.1

pub overflow_add-destination_byte : goal.overflow_add-destination_byte
overflow_add-destination_byte c = omega (arith, step_inside _ _ _ _ _ _ c.requires.0 c.loop-destination_byte.invariant c.match_at-m.ensures c.step_of-destination_byte.ensures)

pub loop-destination_byte-smaller : goal.loop-destination_byte-smaller
loop-destination_byte-smaller c = omega (arith, step_some _ _ _ _ _ _ c.requires.0 c.loop-destination_byte.invariant c.match_at-m.ensures c.step_of-destination_byte.ensures, c.loop-destination_byte-test.true)

pub loop-destination_byte-preserved : goal.loop-destination_byte-preserved
loop-destination_byte-preserved c =
    let call = c.mark_match in
    left_turn _ _ _ _ _ _ c.requires.0 c.loop-destination_byte.invariant c.match_at-m.ensures c.step_of-destination_byte.ensures _ call.auto.record call.ensures

pub returns : goal.returns
returns c = left_end _ _ _ _ _ _ c.requires.0 c.loop-destination_byte.invariant c.loop-destination_byte-test.false
