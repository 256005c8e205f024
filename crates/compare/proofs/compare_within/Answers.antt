-- `compare::compare_within` meets its contract. Assumes nothing.
use lib.ListN.{length}
use Rattle.compare_frames.specs.Listed.{list_checked}
use Rattle.compare.proofs.Whole.{refuse_left, accepted, pass_left}
use Rattle.compare.proofs.compare_within.Goals as goal

pub compare_checked-requires : goal.compare_checked-requires
compare_checked-requires c =
    let a = c.args in
    (accepted a.first_sheet.now a.second_sheet.now a.count (length a.first.now) (length a.second.now) _ c.check_logs.ensures.0 c.in-Ok.is, c.check_logs.ensures.1)

pub returns-in-Err : goal.returns-in-Err
returns-in-Err c =
    let a = c.args in
    refuse_left a.first_sheet.now a.second_sheet.now a.count (length a.first.now) (length a.second.now) _ c.check_logs.ensures.0 c.in-Err.is a.first.now a.second.now a.list.now
    (list_checked a.count a.first.now a.second.now (length a.list.now))

pub returns-in-Ok : goal.returns-in-Ok
returns-in-Ok c =
    let a = c.args in
    pass_left a.first_sheet.now a.second_sheet.now a.count (length a.first.now) (length a.second.now) _ c.check_logs.ensures.0 c.in-Ok.is a.first.now a.second.now a.list.now
    (list_checked a.count a.first.now a.second.now (length a.list.now)) c.compare_checked.ensures
