-- `line_columns::whole_column` meets its contract. Assumes nothing.
use Rattle.line.proofs.Columns.{column_laws}
use Rattle.line_columns.proofs.whole_column.Goals as goal

pub returns-then-not-is_tab : goal.returns-then-not-is_tab
returns-then-not-is_tab c = search column_laws

pub overflow_add-q : goal.overflow_add-q
overflow_add-q c = search column_laws

pub returns : goal.returns
returns c = search column_laws
