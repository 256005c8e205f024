-- `namesakes::is_named` meets its contract. Assumes nothing.
use Rattle.namesakes.proofs.Named.{row_laws}
use Rattle.namesakes.proofs.is_named.Goals as goal

pub returns-then-row-first : goal.returns-then-row-first
returns-then-row-first c = search row_laws

pub overflow_add-first : goal.overflow_add-first
overflow_add-first c = search row_laws

pub returns-then-first-n : goal.returns-then-first-n
returns-then-first-n c = search row_laws

pub has_name-requires : goal.has_name-requires
has_name-requires c = search row_laws

pub returns : goal.returns
returns c = search row_laws
