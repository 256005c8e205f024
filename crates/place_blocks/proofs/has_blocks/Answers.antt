-- `place_blocks::has_blocks` meets its contract. Assumes nothing.
use native.Mathlib.Nat.{mul-le-mul_right}
use native.Mathlib.Omega.{arith}
use Rattle.place_blocks.proofs.has_blocks.Goals as goal

pub overflow_mul-parts : goal.overflow_mul-parts
overflow_mul-parts c = omega (arith, mul-le-mul_right c.args.count c.requires.3, c.requires.0)

pub overflow_mul-result : goal.overflow_mul-result
overflow_mul-result c = omega (arith, mul-le-mul_right c.staged_at_once-at_once.result c.requires.3, c.staged_at_once-at_once.ensures.1)
