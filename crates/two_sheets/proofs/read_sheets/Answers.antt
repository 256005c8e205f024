-- `two_sheets::read_sheets` meets its contract. Assumes nothing.
use Rattle.std.specs.Prelude.{Ok}
use Rattle.std.proofs.lemmas.Result.{err_from_is_err_and}
use mathlib.Core.Path.{◌≡◌, sym}
use mathlib.Core.List.{[]}
use native.Mathlib.Omega.{arith}
use lib.Seq.{length-take-le}
use Rattle.two_sheets.specs.declared.SheetFault.TheVariants.{Source, Destination}
use Rattle.two_sheets.proofs.Halves.{source_read, source_bad, both_types, destination_bad, mapped}
use Rattle.two_sheets.proofs.read_sheets.Goals as goal

pub slice_bounds-read_sheet-end-2 : goal.slice_bounds-read_sheet-end-2
slice_bounds-read_sheet-end-2 c = sym (length-take-le 4096 c.args.table.now (omega (arith, c.requires)))

pub read_sheet-requires : goal.read_sheet-requires
read_sheet-requires c = length-take-le 4096 c.args.table.now (omega (arith, c.requires))

pub returns-in_err-source : goal.returns-in_err-source
returns-in_err-source c =
    let p = err_from_is_err_and c.from_residual.result c.from_residual.ensures.1 in
    let m = mapped c.read_sheet.result c.map_err.result _ c.map_err.ensures.cases c.in_err-source.was in
    let line : c.in_err-source.field-0.0 ≡ Source m.0.0 = grind (arith, m.2) in
    rw (p.1, p.2, line) (source_bad _ _ c.args.table.now _ c.requires m.0 c.read_sheet.ensures m.1)

pub returns-in_err-destination : goal.returns-in_err-destination
returns-in_err-destination c =
    let source : c.read_sheet.result ≡ Ok c.in_ok-source.source = grind arith in
    let p = err_from_is_err_and c.from_residual-in_err-destination.result c.from_residual-in_err-destination.ensures.1 in
    let m = mapped c.read_sheet-2.result c.map_err-2.result _ c.map_err-2.ensures.cases c.in_err-destination.was in
    let line : c.in_err-destination.field-0.0 ≡ Destination m.0.0 = grind (arith, m.2) in
    rw (p.1, p.2, line)
    (destination_bad _ _ _ _ _ _ (source_read _ [] c.args.table.now _ c.requires _ c.read_sheet.ensures source) c.read_sheet-2.ensures m.0 m.1)

pub returns : goal.returns
returns c =
    let source : c.read_sheet.result ≡ Ok c.in_ok-source.source = grind arith in
    let destination : c.read_sheet-2.result ≡ Ok c.in_ok-destination.destination = grind arith in
    both_types _ _ _ _ _ _ (source_read _ [] c.args.table.now _ c.requires _ c.read_sheet.ensures source) c.read_sheet-2.ensures _ destination
