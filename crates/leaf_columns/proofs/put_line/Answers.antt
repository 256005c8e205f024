-- `leaf_columns::put_line` meets its contract. Assumes nothing.
use native.Mathlib.Omega.{arith}
use Rattle.leaf_columns.proofs.Columns.{columns_length, columns_wrote}
use borrow.Author.Rules.{rules}
use Rattle.leaf_columns.proofs.put_line.Goals as goal

pub put_column-second-requires : goal.put_column-second-requires
put_column-second-requires c =
    let a = c.args in
    omega (arith, columns_length a.byte a.size a.class)

pub put_column-third-requires : goal.put_column-third-requires
put_column-third-requires c =
    let a = c.args in
    omega (arith, columns_length a.byte a.size a.class)

pub put_class-requires : goal.put_class-requires
put_class-requires c =
    let a = c.args in
    omega (arith, columns_length a.byte a.size a.class)

pub returns : goal.returns
returns c = search (rules, columns_wrote)
