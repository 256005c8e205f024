-- `leaf_compare::same_names` meets its contract. Assumes nothing.
use Rattle.leaf_compare.proofs.Ways.{names_read}
use Rattle.leaf_compare.proofs.same_names.Goals as goal

pub returns : goal.returns
returns c =
    let a = c.args in
    names_read a.first_half.now a.first_sheet.now a.second_half.now a.second_sheet.now a.row a.other c.row_word-start.ensures c.row_word-len.ensures c.has_name.ensures
