-- `convert::convert_in_place` meets its contract. Assumes nothing.
use mathlib.Core.Path.{sym, ◌∙◌}
use lib.Seq.{length-take-le}
use Rattle.conversion.proofs.Whole.{bad_handling, short_table, answers_all}
use Rattle.convert.proofs.convert_in_place.Goals as goal

pub returns-then-handling-gt-STOP : goal.returns-then-handling-gt-STOP
returns-then-handling-gt-STOP c = bad_handling _ c.if-handling-gt-STOP.true

pub returns-then-table-lt-TABLE : goal.returns-then-table-lt-TABLE
returns-then-table-lt-TABLE c = short_table _ c.if-handling-gt-STOP.false c.if-table-lt-TABLE.true

pub slice_bounds-convert_within-end-2 : goal.slice_bounds-convert_within-end-2
slice_bounds-convert_within-end-2 c = sym (length-take-le 8192 c.args.table.now c.if-table-lt-TABLE.false)

pub convert_within-r-requires : goal.convert_within-r-requires
convert_within-r-requires c = (c.if-handling-gt-STOP.false, length-take-le 8192 c.args.table.now c.if-table-lt-TABLE.false)

pub returns : goal.returns
returns c = rw c.clear.ensures (answers_all _ _ _ c.convert_within-r.new.table c.if-handling-gt-STOP.false c.if-table-lt-TABLE.false (c.table-1.given.0 ∙ length-take-le 8192 c.args.table.now c.if-table-lt-TABLE.false) c.convert_within-r.ensures)
