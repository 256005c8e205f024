-- `real_columns::short::magnitude_in` meets its contract. Assumes nothing.
use Rattle.std.proofs.Common.{refl}
use Rattle.real_columns.proofs.short.magnitude_in.Goals as goal

pub returns-then-negative : goal.returns-then-negative
returns-then-negative c = rw c.if-negative.true refl
