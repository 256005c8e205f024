-- `leaves::list_sheet` meets its contract. Assumes nothing.
use Rattle.leaves.proofs.Answers.{sheet_laws}
use Rattle.leaves.proofs.list_sheet.Goals as goal

pub list_type-requires : goal.list_type-requires
list_type-requires c = search sheet_laws

pub returns-in-Ok : goal.returns-in-Ok
returns-in-Ok c = search sheet_laws

pub returns-in-Err : goal.returns-in-Err
returns-in-Err c = search sheet_laws
