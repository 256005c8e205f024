-- `real_columns::short::first_below` meets its contract. Assumes nothing.
use Rattle.real_columns.proofs.short.first_below.Goals as goal

pub returns-then-signed : goal.returns-then-signed
returns-then-signed c = rw c.if-signed.true c.pow2.ensures

pub returns-else-signed : goal.returns-else-signed
returns-else-signed c = rw c.if-signed.false c.pow2-else-signed.ensures
