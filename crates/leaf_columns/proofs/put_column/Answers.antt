-- `leaf_columns::put_column` meets its contract. Assumes nothing.
use Rattle.leaf_columns.proofs.Columns.{column_length, column_wrote}
use native.Mathlib.Omega.{arith}
use Rattle.leaf_columns.proofs.put_column.Goals as goal

pub put_decimal-end-requires : goal.put_decimal-end-requires
put_decimal-end-requires c = omega (arith, column_length c.args.n)

pub put_bytes-requires : goal.put_bytes-requires
put_bytes-requires c = omega (arith, column_length c.args.n)

pub returns : goal.returns
returns c = column_wrote c.args.at c.args.n c.requires c.put_decimal-end.ensures c.put_bytes.ensures
