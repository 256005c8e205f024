-- The name ends within the text. Assumes nothing.
use native.Mathlib.Omega.{arith}
use Rattle.text.proofs.Places.{field_length}
use Rattle.sheets.proofs.show_next.Goals as goal

pub slice_bounds-show_sheet-end : goal.slice_bounds-show_sheet-end
slice_bounds-show_sheet-end g c = omega (arith, field_length c.args.names.now c.args.at)
