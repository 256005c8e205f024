-- `compare::compare` meets its contract. Assumes nothing.
use mathlib.Core.Path.{sym, ◌∙◌}
use lib.Seq.{length-take-le}
use Rattle.compare.proofs.Whole.{short_table, compares_all}
use Rattle.compare.proofs.compare.Goals as goal

pub returns-then-table-lt-TABLE : goal.returns-then-table-lt-TABLE
returns-then-table-lt-TABLE c = short_table _ c.if-table-lt-TABLE.true

pub slice_bounds-compare_within-end-2 : goal.slice_bounds-compare_within-end-2
slice_bounds-compare_within-end-2 c = sym (length-take-le 8192 c.args.table.now c.if-table-lt-TABLE.false)

pub compare_within-r-requires : goal.compare_within-r-requires
compare_within-r-requires c = length-take-le 8192 c.args.table.now c.if-table-lt-TABLE.false

pub returns : goal.returns
returns c =
    rw c.clear.ensures
    (compares_all _ _ _ c.compare_within-r.new.table c.if-table-lt-TABLE.false (c.table-1.given.0 ∙ length-take-le 8192 c.args.table.now c.if-table-lt-TABLE.false) c.compare_within-r.ensures)
