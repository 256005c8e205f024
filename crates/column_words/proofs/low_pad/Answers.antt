-- `column_words::low_pad` meets its contract. Assumes nothing.
use lib.Pow.{ones_lt}
use Rattle.column_words.proofs.low_pad.Goals as goal

pub returns : goal.returns
returns c = (c.ones.ensures, rw c.ones.ensures (ones_lt c.args.l.offset.0))
