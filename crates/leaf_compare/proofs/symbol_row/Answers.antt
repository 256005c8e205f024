-- `leaf_compare::symbol_row` meets its contract. Assumes nothing.
use Rattle.leaf_compare.proofs.Ways.{row_of}
use Rattle.leaf_compare.proofs.symbol_row.Goals as goal

pub returns : goal.returns
returns c =
    let a = c.args in
    row_of a.half.now a.type_number a.z c.split-p.result c.split-p.ensures c.type_word-first.ensures c.symbol_rows-rows.ensures c.row_numbered.ensures
