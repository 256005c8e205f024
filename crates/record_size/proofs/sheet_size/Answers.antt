-- `record_size::sheet_size` meets its contract. Assumes nothing.
use Rattle.record_size.proofs.Answers.{sheet_laws}
use Rattle.record_size.proofs.sheet_size.Goals as goal

pub returns-in-Ok : goal.returns-in-Ok
returns-in-Ok c = search sheet_laws

pub returns-in-Err : goal.returns-in-Err
returns-in-Err c = search sheet_laws
