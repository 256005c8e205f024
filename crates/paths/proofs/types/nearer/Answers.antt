-- `paths::types::nearer` meets its contract. Assumes nothing.
use mathlib.Core.Logic.{inl, inr}
use native.Mathlib.Omega.{arith}
use Rattle.paths.proofs.types.nearer.Goals as goal

pub returns-then-offset-end : goal.returns-then-offset-end
returns-then-offset-end c = record { behind = omega arith; inside = omega arith; clear = inr (omega arith) }

pub returns-else-offset-end : goal.returns-else-offset-end
returns-else-offset-end c = record { behind = omega arith; inside = omega arith; clear = inr (omega arith) }

pub returns-else-byte-offset : goal.returns-else-byte-offset
returns-else-byte-offset c = record { behind = omega arith; inside = omega arith; clear = inl (omega arith) }
