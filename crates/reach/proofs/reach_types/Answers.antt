-- `reach::reach_types` meets its contract. Assumes nothing.
use mathlib.Core.Path.{sym, ◌∙◌}
use lib.Seq.{length-take-le}
use Rattle.table.specs.Table.{type_at}
use Rattle.conversion.proofs.Parts.{denied, granted}
use Rattle.conversion.proofs.Checking.{read_size}
use Rattle.reach.proofs.Whole.{no_path, lost_symbols, no_room, marked}
use mathlib.Core.Path.{ap}
use mathlib.Core.Bool.{not}
use Rattle.reach.proofs.reach_types.Goals as goal

pub returns-then-not-has_path : goal.returns-then-not-has_path
returns-then-not-has_path c = no_path _ _ _ (denied _ _ c.has_path.ensures (ap not c.if-not-has_path.true))

pub returns-then-not-keeps_symbols : goal.returns-then-not-keeps_symbols
returns-then-not-keeps_symbols c = lost_symbols _ _ _ (granted _ _ c.has_path.ensures (ap not c.if-not-has_path.false)) (denied _ _ c.keeps_symbols.ensures (ap not c.if-not-keeps_symbols.true))

pub returns-then-mask-bytes : goal.returns-then-mask-bytes
returns-then-mask-bytes c =
    let S = type_at c.args.source_half.now c.args.source_sheet.now c.args.source_type in
    let D = type_at c.args.destination_half.now c.args.destination_sheet.now c.args.destination_type in
    no_room S D c.args.mask.now (granted _ _ c.has_path.ensures (ap not c.if-not-has_path.false)) (granted _ _ c.keeps_symbols.ensures (ap not c.if-not-keeps_symbols.false)) _ (read_size _ _ _ c.type_word-bytes.ensures) c.if-mask-bytes.true

pub slice_bounds-put_mask-end-2 : goal.slice_bounds-put_mask-end-2
slice_bounds-put_mask-end-2 c = sym (length-take-le _ c.args.mask.now c.if-mask-bytes.false)

pub put_mask-requires : goal.put_mask-requires
put_mask-requires c = (c.requires, length-take-le _ c.args.mask.now c.if-mask-bytes.false ∙ read_size _ c.args.source_sheet.now _ c.type_word-bytes.ensures)

pub returns : goal.returns
returns c =
    let S = type_at c.args.source_half.now c.args.source_sheet.now c.args.source_type in
    let D = type_at c.args.destination_half.now c.args.destination_sheet.now c.args.destination_type in
    marked S D c.args.mask.now (granted _ _ c.has_path.ensures (ap not c.if-not-has_path.false)) (granted _ _ c.keeps_symbols.ensures (ap not c.if-not-keeps_symbols.false)) _ (read_size _ _ _ c.type_word-bytes.ensures) _ c.if-mask-bytes.false c.put_mask.ensures
