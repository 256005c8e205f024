-- `compare::compare_checked` meets its contract. Assumes nothing.
use mathlib.Core.Path.{sym}
use native.Mathlib.Omega.{arith}
use lib.Seq.{length-take-le}
use Rattle.compare.proofs.Halves.{framed_asked, framed_left}
use Rattle.compare.proofs.compare_checked.Goals as goal

pub slice_bounds-first_half-end : goal.slice_bounds-first_half-end
slice_bounds-first_half-end c = sym (length-take-le 4096 c.args.table.now (omega (arith, c.requires.1)))

pub empty_framed-requires : goal.empty_framed-requires
empty_framed-requires c = framed_asked c.args.first_sheet.now c.args.second_sheet.now c.args.table.now c.args.x.first c.args.x.second c.requires.0

pub returns-then-x-eq0 : goal.returns-then-x-eq0
returns-then-x-eq0 c =
    let a = c.args in
    framed_left a.first_sheet.now a.second_sheet.now a.table.now a.x.first a.x.second a.x.count a.first.now a.second.now a.list.now _ _ c.empty_framed.ensures

pub compare_framed-requires : goal.compare_framed-requires
compare_framed-requires c = framed_asked c.args.first_sheet.now c.args.second_sheet.now c.args.table.now c.args.x.first c.args.x.second c.requires.0

pub returns : goal.returns
returns c =
    let a = c.args in
    framed_left a.first_sheet.now a.second_sheet.now a.table.now a.x.first a.x.second a.x.count a.first.now a.second.now a.list.now _ _ c.compare_framed.ensures
