-- `compare_checking::check_types` meets its contract. Assumes nothing.
use Rattle.compare_checking.proofs.Checking.{refuse_path, types_say}
use mathlib.Core.Path.{ap}
use mathlib.Core.Bool.{not}
use Rattle.compare_checking.proofs.check_types.Goals as goal

pub returns-then-not-has_path : goal.returns-then-not-has_path
returns-then-not-has_path c = refuse_path c.args.first_sheet.now c.args.second_sheet.now c.args.count c.args.first c.args.second c.args.first_half.now c.args.first_type c.args.second_half.now c.args.second_type c.has_path.ensures (ap not c.if-not-has_path.true)

pub check_records-requires : goal.check_records-requires
check_records-requires c = (c.args.first_sheet.now, c.args.second_sheet.now, c.requires)

pub returns : goal.returns
returns c =
    types_say c.args.first_sheet.now c.args.second_sheet.now c.args.count c.args.first c.args.second c.args.first_half.now c.args.first_type c.args.second_half.now c.args.second_type c.has_path.ensures (ap not c.if-not-has_path.false) c.check_records.result
    (c.check_records.ensures c.args.first_sheet.now c.args.second_sheet.now c.requires)
