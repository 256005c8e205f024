-- `convert::convert_checked` meets its contract. Assumes nothing.
use mathlib.Core.Path.{sym}
use native.Mathlib.Omega.{arith}
use lib.Seq.{length-take-le}
use Rattle.convert.proofs.Parts.{framed_asked, framed_left}
use Rattle.convert.proofs.convert_checked.Goals as goal

pub slice_bounds-source_half-end : goal.slice_bounds-source_half-end
slice_bounds-source_half-end c = sym (length-take-le 4096 c.args.table.now (omega (arith, c.requires.1)))

pub replace_framed-requires : goal.replace_framed-requires
replace_framed-requires c = (framed_asked _ _ _ c.args.table.now _ _ c.if-in_place.true _ _ c.requires.0, c.requires.2)

pub returns-then-in_place : goal.returns-then-in_place
returns-then-in_place c = framed_left c.args.source_sheet.now c.args.destination_sheet.now c.args.count c.args.table.now c.args.source_type c.args.destination_type c.if-in_place.true c.args.handling c.args.out.now c.args.other.now _ _ c.replace_framed.ensures

pub copy_framed-requires : goal.copy_framed-requires
copy_framed-requires c = (framed_asked _ _ _ c.args.table.now _ _ c.if-in_place.false _ _ c.requires.0, c.requires.2)

pub returns : goal.returns
returns c = framed_left c.args.source_sheet.now c.args.destination_sheet.now c.args.count c.args.table.now c.args.source_type c.args.destination_type c.if-in_place.false c.args.handling c.args.out.now c.args.other.now _ _ c.copy_framed.ensures
