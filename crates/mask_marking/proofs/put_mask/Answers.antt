-- `mask_marking::put_mask` meets its contract. Assumes nothing.
use Rattle.mask_marking.proofs.Marking.{mask_marked}
use Rattle.mask_marking.proofs.put_mask.Goals as goal

pub returns : goal.returns
returns c = mask_marked _ _ _ _ _ _ c.requires.0 c.args.«record».now _ c.requires.1 (rw c.clear_bytes.ensures at c.mark_leaves.ensures)
