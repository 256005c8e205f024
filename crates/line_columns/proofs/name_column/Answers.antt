-- `line_columns::name_column` meets its contract. Assumes nothing.
use Rattle.line.proofs.Columns.{column_laws}
use Rattle.line_columns.proofs.name_column.Goals as goal

pub returns-then-not-is_tab : goal.returns-then-not-is_tab
returns-then-not-is_tab c = search column_laws

pub overflow_add-start : goal.overflow_add-start
overflow_add-start c = search column_laws

pub returns-in_err-end : goal.returns-in_err-end
returns-in_err-end c = search column_laws

pub returns : goal.returns
returns c = search column_laws
