-- `loading::le8` meets its contract. Assumes nothing.
use native.Mathlib.Omega.{arith}
use Rattle.bits.specs.declared.Order.TheVariants.{LE}
use Rattle.bits.proofs.Words.{two_parts}
use Rattle.loading.proofs.le8.Goals as goal

pub returns : goal.returns
returns c = (omega (arith, two_parts LE c.args.s.now c.args.at 4 4 c.requires), omega arith)
