-- `reach::reach` meets its contract. Assumes nothing.
use mathlib.Core.Path.{sym, ◌∙◌}
use lib.Seq.{length-take-le}
use Rattle.reach.proofs.Whole.{short_table, reaches_all}
use Rattle.reach.proofs.reach.Goals as goal

pub returns-then-table-lt-TABLE : goal.returns-then-table-lt-TABLE
returns-then-table-lt-TABLE c = short_table _ c.if-table-lt-TABLE.true

pub slice_bounds-reach_sheets-end-2 : goal.slice_bounds-reach_sheets-end-2
slice_bounds-reach_sheets-end-2 c = sym (length-take-le 8192 c.args.table.now c.if-table-lt-TABLE.false)

pub reach_sheets-r-requires : goal.reach_sheets-r-requires
reach_sheets-r-requires c = length-take-le 8192 c.args.table.now c.if-table-lt-TABLE.false

pub returns : goal.returns
returns c =
    rw c.clear.ensures
    (reaches_all _ _ _ c.reach_sheets-r.new.table c.if-table-lt-TABLE.false (c.table-1.given.0 ∙ length-take-le 8192 c.args.table.now c.if-table-lt-TABLE.false) c.reach_sheets-r.ensures)
