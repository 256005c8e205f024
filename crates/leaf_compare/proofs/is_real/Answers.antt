-- `leaf_compare::is_real` meets its contract. Assumes nothing.
use mathlib.Core.Path.{ap}
use Prim.Native.Nat.{ℕ}
use lib.Dec.{eqb}
use Rattle.leaf_compare.proofs.is_real.Goals as goal

pub returns : goal.returns
returns c = ap (λ (x : ℕ). eqb x 5) c.type_word.ensures.is
