-- `whole_columns::is_all_bits` meets its contract. Assumes nothing.
use mathlib.Core.Bool.{false≢true}
use Rattle.whole_columns.proofs.is_all_bits.Goals as goal

pub returns-then-has_all_bits : goal.returns-then-has_all_bits
returns-then-has_all_bits c e = (c.has_all_bits.ensures c.if-has_all_bits.true, c.has_all_bits-then-has_all_bits.ensures e)

pub returns : goal.returns
returns c e = absurd (false≢true e)
