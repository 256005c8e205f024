-- `real_columns::one_raised` meets its contract. Assumes nothing.
use Rattle.real_columns.proofs.Making.{some_raised}
use Rattle.real_columns.proofs.one_raised.Goals as goal

pub returns-else-kind-eq-NO_EXCEPTION : goal.returns-else-kind-eq-NO_EXCEPTION
returns-else-kind-eq-NO_EXCEPTION c = some_raised c.args.kind c.if-kind-eq-NO_EXCEPTION.false
