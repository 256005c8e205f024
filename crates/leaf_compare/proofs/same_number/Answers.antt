-- `leaf_compare::same_number` meets its contract. Assumes nothing.
use Rattle.leaf_compare.proofs.Ways.{by_parts}
use Rattle.leaf_compare.proofs.same_number.Goals as goal

pub returns : goal.returns
returns c =
    let a = c.args in
    by_parts a.z a.w c.split-p.result c.split-q.result c.split-p.ensures c.split-q.ensures c.same_parts.ensures
