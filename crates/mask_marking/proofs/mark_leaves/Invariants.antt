-- `mask_marking::mark_leaves` meets its contract. The loop's invariant: what is left to mark, from a byte of the destination record on. Assumes nothing.
use Prim.Native.Nat.{◌-◌}
use Rattle.mask_marking.proofs.Marking.{Left}
use Rattle.mask_marking.proofs.mark_leaves.Given as goal

abbrev pub invariant-loop-destination_byte : goal.invariant-loop-destination_byte
invariant-loop-destination_byte l = Left l.source_sheet l.source_half l.source_type l.destination_sheet l.destination_half l.destination_type l.initial.«record» l.bytes l.«record» l.destination_byte

abbrev pub decreases-loop-destination_byte : goal.decreases-loop-destination_byte
decreases-loop-destination_byte l = l.bytes - l.destination_byte
