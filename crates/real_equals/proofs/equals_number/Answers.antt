-- `real_equals::equals_number` meets its contract. Assumes nothing.
use Rattle.real_equals.proofs.equals_number.Goals as goal

pub returns : goal.returns
returns c = rw c.split_in_range-p.ensures.0 c.equals_parts.ensures
