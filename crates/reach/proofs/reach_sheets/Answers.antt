-- `reach::reach_sheets` meets its contract. Assumes nothing.
use Rattle.reach.proofs.Whole.{fault_leaves, types_of}
use Rattle.reach.proofs.reach_sheets.Goals as goal

pub reach_halves-requires : goal.reach_halves-requires
reach_halves-requires c = types_of _ _ _ c.read_sheets.ensures c.in-Ok.is

pub returns-in-Err : goal.returns-in-Err
returns-in-Err c = rw c.from.ensures (fault_leaves _ _ _ c.args.mask.now c.read_sheets.ensures c.in-Err.is)
