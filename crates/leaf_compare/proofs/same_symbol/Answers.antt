-- `leaf_compare::same_symbol` meets its contract. Assumes nothing.
use Rattle.leaf_compare.proofs.Ways.{by_symbols}
use Rattle.leaf_compare.proofs.same_symbol.Goals as goal

pub returns : goal.returns
returns c =
    let a = c.args in
    by_symbols a.first_half.now a.first_sheet.now a.second_half.now a.second_sheet.now a.e.source a.e.destination a.z a.w c.symbol_row-row.ensures c.symbol_row-other.ensures c.same_number-numbers.ensures c.same_rows.ensures
