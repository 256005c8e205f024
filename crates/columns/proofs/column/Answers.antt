-- `columns::column` meets its contract. Assumes nothing.
use native.Mathlib.Omega.{arith}
use borrow.Author.Rules.{rules}
use Rattle.whole_moves.specs.Whole.{Whole}
use Rattle.columns.proofs.Composed.{none_raised}
use Rattle.columns.proofs.column.Goals as goal

pub move_column-requires : goal.move_column-requires
move_column-requires c = (c.requires.0.wide, c.is_whole.ensures c.if-is_whole.true, search rules, search rules, search rules, search rules)

pub returns-then-is_whole : goal.returns-then-is_whole
returns-then-is_whole c =
    let a = c.args in
    let whole : Whole a.w = c.is_whole.ensures c.if-is_whole.true in
    (c.move_column.ensures, none_raised a.w whole.low whole.high a.source_byte a.source_size a.src.now a.count, omega arith)

pub column_32-requires : goal.column_32-requires
column_32-requires c =
    let low = c.is_narrow.ensures c.if-is_narrow.true in
    (c.requires.0.narrow low.0 low.1, search rules, search rules, search rules, search rules, search rules, search rules)
