-- `real_columns::is_real` meets its contract. Assumes nothing.
use Rattle.std.proofs.Common.{ℕ, eqb, ap}
use Rattle.real_columns.proofs.is_real.Goals as goal

pub returns : goal.returns
returns c = ap (λ (x : ℕ). eqb x 5) c.type_word.ensures.is
