-- `compare_checking::check_logs` meets its contract. Assumes nothing.
use Rattle.std.proofs.lemmas.Result.{err_from_is_err_and}
use Rattle.conversion.proofs.Checking.{types_of}
use Rattle.compare_checking.proofs.Checking.{fault_says}
use Rattle.compare_checking.proofs.check_logs.Goals as goal

pub check_halves-requires : goal.check_halves-requires
check_halves-requires c = types_of _ _ _ c.read_sheets.ensures c.in_ok-types.was

pub returns-in_err-types : goal.returns-in_err-types
returns-in_err-types c =
    let a = c.args in
    let p = err_from_is_err_and c.from_residual.result c.from_residual.ensures.1 in
    rw (p.1, p.2) (fault_says a.first_sheet.now a.second_sheet.now a.count a.first a.second _ c.read_sheets.ensures c.in_err-types.was)

pub returns : goal.returns
returns c = (c.check_halves.ensures, c.read_sheets.ensures.words)
