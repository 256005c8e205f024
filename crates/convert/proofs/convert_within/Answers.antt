-- `convert::convert_within` meets its contract. Assumes nothing.
use Rattle.convert.proofs.Parts.{refuse_left, passes_are, pass_left}
use Rattle.convert.proofs.convert_within.Goals as goal

pub convert_checked-requires : goal.convert_checked-requires
convert_checked-requires c = (passes_are c.args.in_place c.args.source_sheet.now c.args.destination_sheet.now c.args.handling c.args.count c.args.out.now c.args.other.now _ _ c.check_sheets.ensures.0 c.in-Ok.is, c.check_sheets.ensures.1, c.requires.0)

pub returns-in-Err : goal.returns-in-Err
returns-in-Err c = refuse_left c.args.in_place c.args.source_sheet.now c.args.destination_sheet.now c.args.handling c.args.count c.args.out.now c.args.other.now _ _ c.check_sheets.ensures.0 _ c.in-Err.is

pub returns-in-Ok : goal.returns-in-Ok
returns-in-Ok c = pass_left c.args.in_place c.args.source_sheet.now c.args.destination_sheet.now c.args.handling c.args.count c.args.out.now c.args.other.now _ _ c.check_sheets.ensures.0 c.in-Ok.is _ _ c.convert_checked.ensures
