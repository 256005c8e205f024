-- `compare_checking::check_halves` meets its contract. Assumes nothing.
use native.Mathlib.Omega.{arith}
use mathlib.Core.Path.{sym}
use lib.Seq.{length-take-le}
use Rattle.compare_checking.proofs.Checking.{halves_both, halves_say}
use Rattle.compare_checking.proofs.check_halves.Goals as goal

pub slice_bounds-first_half-end : goal.slice_bounds-first_half-end
slice_bounds-first_half-end c = sym (length-take-le 4096 c.args.table.now (omega (arith, c.requires.1)))

pub check_types-requires : goal.check_types-requires
check_types-requires c = halves_both c.args.first_sheet.now c.args.second_sheet.now c.args.count c.args.first c.args.second c.args.table.now _ _ c.requires.0

pub returns : goal.returns
returns c = halves_say c.args.first_sheet.now c.args.second_sheet.now c.args.count c.args.first c.args.second c.args.table.now _ _ c.requires.0 c.check_types.result c.check_types.ensures
