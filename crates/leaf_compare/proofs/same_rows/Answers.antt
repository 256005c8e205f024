-- `leaf_compare::same_rows` meets its contract. Assumes nothing.
use Rattle.leaf_compare.proofs.Ways.{first_missing, second_missing, both_found}
use Rattle.leaf_compare.proofs.same_rows.Goals as goal

pub returns-in_default : goal.returns-in_default
returns-in_default c =
    let a = c.args in
    first_missing a.first_half.now a.first_sheet.now a.second_half.now a.second_sheet.now a.row a.other a.numbers c.in_default.is c.unless_found.ensures

pub returns-in_default-other : goal.returns-in_default-other
returns-in_default-other c =
    let a = c.args in
    second_missing a.first_half.now a.first_sheet.now a.second_half.now a.second_sheet.now a.row a.other a.numbers c.in-Some.is c.in_default-other.is

pub returns : goal.returns
returns c =
    let a = c.args in
    both_found a.first_half.now a.first_sheet.now a.second_half.now a.second_sheet.now a.row a.other a.numbers c.in-Some.is c.in-Some-other.is c.same_names.ensures
