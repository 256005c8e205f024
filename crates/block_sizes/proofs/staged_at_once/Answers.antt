-- `block_sizes::staged_at_once` meets its contract. Assumes nothing.
use Prim.Native.Nat.{ℕ, ◌*◌, ◌/◌, ◌≤◌, ◌<◌}
use native.Mathlib.Nat.{div-mul-le_self, div-le_of_le-mul, le-div_iff_mul-le}
use native.Mathlib.Omega.{arith}
use Rattle.block_sizes.proofs.staged_at_once.Goals as goal

quotient : (s : ℕ) → 1 ≤ s → s ≤ 4096 → 4096 < 256 * s → (1 ≤ 4096 / s) × (4096 / s ≤ 256) × (4096 / s * s ≤ 4096)
quotient s low high long = ((le-div_iff_mul-le low).1 (omega arith), div-le_of_le-mul s (omega arith), div-mul-le_self 4096 s)

pub returns : goal.returns
returns c = quotient c.args.source_size (omega arith) (omega arith) (omega arith)
