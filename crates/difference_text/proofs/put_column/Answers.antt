-- `difference_text::put_column` meets its contract. Assumes nothing.
use native.Mathlib.Omega.{arith}
use Rattle.number.specs.Parts.{meaning}
use Rattle.difference_text.proofs.Columns.{column_length, column_wrote}
use Rattle.difference_text.proofs.put_column.Goals as goal

pub put_bytes-next-requires : goal.put_bytes-next-requires
put_bytes-next-requires c = omega (arith, column_length (meaning c.args.z), c.requires)

pub put_number-requires : goal.put_number-requires
put_number-requires c = omega (arith, column_length (meaning c.args.z), c.requires)

pub returns : goal.returns
returns c = column_wrote (meaning c.args.z) c.args.at c.requires c.put_bytes-next.ensures c.put_number.ensures
