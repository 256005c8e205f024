-- `mask_marking::mark_match` meets its contract. Assumes nothing.
use Rattle.mask_marking.proofs.Marking.{leaf_marked}
use Rattle.mask_marking.proofs.mark_match.Goals as goal

pub returns : goal.returns
returns c = leaf_marked _ _ _ c.in-Matched.is c.mark_leaf.ensures
