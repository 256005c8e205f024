-- `symbol_tables::bits_code` meets its contract: bits that are too many are not asked for. Assumes nothing.
use lib.Pow.{pow_pos}
use native.Mathlib.Omega.{arith}
use Rattle.symbol_tables.proofs.bits_code.Goals as goal

pub raw_code-requires : goal.raw_code-requires
raw_code-requires c = (c.requires.0, c.requires.1, omega (arith, c.ones.ensures, c.if-ones-bits.false, pow_pos c.args.l.precision), c.requires.2, c.requires.3)
