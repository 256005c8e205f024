-- `checking::check_types` meets its contract. Assumes nothing.
use Rattle.conversion.proofs.Checking.{refuse_path, refuse_symbols, types_say}
use mathlib.Core.Path.{ap}
use mathlib.Core.Bool.{not}
use Rattle.checking.proofs.check_types.Goals as goal

pub returns-then-not-has_path : goal.returns-then-not-has_path
returns-then-not-has_path c = refuse_path c.args.in_place c.args.source_sheet.now c.args.destination_sheet.now c.args.count c.args.out c.args.other c.args.source_half.now c.args.source_type c.args.destination_half.now c.args.destination_type c.requires c.has_path.ensures (ap not c.if-not-has_path.true)

pub returns-then-not-keeps_symbols : goal.returns-then-not-keeps_symbols
returns-then-not-keeps_symbols c = refuse_symbols c.args.in_place c.args.source_sheet.now c.args.destination_sheet.now c.args.count c.args.out c.args.other c.args.source_half.now c.args.source_type c.args.destination_half.now c.args.destination_type c.requires c.has_path.ensures (ap not c.if-not-has_path.false) c.keeps_symbols.ensures (ap not c.if-not-keeps_symbols.true)

pub check_records-requires : goal.check_records-requires
check_records-requires c = (c.args.source_sheet.now, c.args.destination_sheet.now, c.requires)

pub returns : goal.returns
returns c =
    types_say c.args.in_place c.args.source_sheet.now c.args.destination_sheet.now c.args.count c.args.out c.args.other c.args.source_half.now c.args.source_type c.args.destination_half.now c.args.destination_type c.requires c.has_path.ensures (ap not c.if-not-has_path.false) c.keeps_symbols.ensures (ap not c.if-not-keeps_symbols.false) c.check_records.result
    (c.check_records.ensures c.args.source_sheet.now c.args.destination_sheet.now c.requires)
