-- `text_writing::decimal_len` meets its contract. Assumes nothing.
use native.Mathlib.Omega.{arith}
use Rattle.text.proofs.Decimals.{length_small}
use Rattle.text_writing.proofs.Digits.{length_power}
use Rattle.text_writing.proofs.decimal_len.Goals as goal

pub returns-then-n-eq0 : goal.returns-then-n-eq0
returns-then-n-eq0 c = omega (arith, length_small c.args.n (omega arith))

pub returns-else-n-eq0 : goal.returns-else-n-eq0
returns-else-n-eq0 c = omega (arith, length_power c.ilog10.result c.args.n c.ilog10.ensures.power_le c.ilog10.ensures.next_power_gt)
