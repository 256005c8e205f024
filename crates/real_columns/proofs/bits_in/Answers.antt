-- `real_columns::bits_in` meets its contract. Assumes nothing.
use Rattle.std.proofs.Common.{◌/◌, ◌^◌, refl}
use lib.Bits.{and_le_r}
use Rattle.real_columns.proofs.bits_in.Goals as goal

pub returns : goal.returns
returns c = (refl, and_le_r (c.args.x / 2 ^ c.args.shift) c.args.mask)
