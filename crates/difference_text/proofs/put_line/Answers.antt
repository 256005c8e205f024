-- `difference_text::put_line` meets its contract. Assumes nothing.
use lib.IntN.{pos}
use native.Mathlib.Omega.{arith}
use Rattle.number.specs.Parts.{meaning}
use Rattle.difference_text.proofs.Columns.{column_length, line_length, line_wrote}
use Rattle.difference_text.proofs.put_line.Goals as goal

pub put_decimal-next-requires : goal.put_decimal-next-requires
put_decimal-next-requires c =
    let a = c.args in
    omega (arith, line_length a.index a.byte (meaning a.first) (meaning a.second))

pub put_column-third-requires : goal.put_column-third-requires
put_column-third-requires c =
    let a = c.args in
    omega (arith, line_length a.index a.byte (meaning a.first) (meaning a.second), column_length (pos a.byte))

pub put_numbers-requires : goal.put_numbers-requires
put_numbers-requires c =
    let a = c.args in
    let w = c.put_column-third.ensures in
    omega (arith, line_length a.index a.byte (meaning a.first) (meaning a.second), column_length (pos a.byte), w.ends, w.same, c.put_decimal-next.ensures.0)

pub returns : goal.returns
returns c = line_wrote c.args.index c.args.byte (meaning c.args.first) (meaning c.args.second) c.args.at c.requires c.put_decimal-next.ensures c.put_column-third.ensures c.put_numbers.ensures
