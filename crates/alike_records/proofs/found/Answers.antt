-- `alike_records::found` meets its contract. Assumes nothing.
use Rattle.alike_records.proofs.SameBytes.{found_none, found_one}
use Rattle.alike_records.proofs.found.Goals as goal

pub returns-then-x-y : goal.returns-then-x-y
returns-then-x-y c = found_none _ _ _ c.if-x-y.true

pub returns-else-x-y : goal.returns-else-x-y
returns-else-x-y c = found_one _ _ _ c.if-x-y.false
