-- `difference_text::put_numbers` meets its contract. Assumes nothing.
use native.Mathlib.Omega.{arith}
use Rattle.number.specs.Parts.{meaning}
use Rattle.difference_text.proofs.Columns.{numbers_length, numbers_wrote}
use Rattle.difference_text.proofs.put_numbers.Goals as goal

pub put_column-next-requires : goal.put_column-next-requires
put_column-next-requires c = omega (arith, numbers_length (meaning c.args.first) (meaning c.args.second))

pub put_column-end-requires : goal.put_column-end-requires
put_column-end-requires c =
    let w = c.put_column-next.ensures in
    omega (arith, numbers_length (meaning c.args.first) (meaning c.args.second), w.ends, w.same)

pub put_bytes-requires : goal.put_bytes-requires
put_bytes-requires c =
    let w = c.put_column-next.ensures in
    let u = c.put_column-end.ensures in
    omega (arith, numbers_length (meaning c.args.first) (meaning c.args.second), w.ends, w.same, u.ends, u.same)

pub returns : goal.returns
returns c = numbers_wrote (meaning c.args.first) (meaning c.args.second) c.args.at c.requires c.put_column-next.ensures c.put_column-end.ensures c.put_bytes.ensures
