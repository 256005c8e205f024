-- `checking::check_halves` meets its contract. Assumes nothing.
use native.Mathlib.Omega.{arith}
use mathlib.Core.Path.{sym}
use lib.Seq.{length-take-le}
use Rattle.conversion.proofs.Checking.{halves_both, halves_say}
use Rattle.checking.proofs.check_halves.Goals as goal

pub slice_bounds-source_half-end : goal.slice_bounds-source_half-end
slice_bounds-source_half-end c = sym (length-take-le 4096 c.args.table.now (omega (arith, c.requires.1)))

pub check_types-requires : goal.check_types-requires
check_types-requires c = halves_both c.args.in_place c.args.source_sheet.now c.args.destination_sheet.now c.args.count c.args.out c.args.other c.args.table.now _ _ c.requires.0

pub returns : goal.returns
returns c = halves_say c.args.in_place c.args.source_sheet.now c.args.destination_sheet.now c.args.count c.args.out c.args.other c.args.table.now _ _ c.requires.0 c.check_types.result c.check_types.ensures
