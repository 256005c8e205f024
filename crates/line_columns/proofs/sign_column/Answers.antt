-- `line_columns::sign_column` meets its contract. Assumes nothing.
use Rattle.line.proofs.Columns.{word_laws}
use Rattle.line_columns.proofs.sign_column.Goals as goal

pub returns-then-not-is_tab : goal.returns-then-not-is_tab
returns-then-not-is_tab c = search word_laws

pub overflow_add-at : goal.overflow_add-at
overflow_add-at c = search word_laws

pub returns-then-word_at : goal.returns-then-word_at
returns-then-word_at c = search word_laws

pub returns-then-word_at-2 : goal.returns-then-word_at-2
returns-then-word_at-2 c = search word_laws

pub returns : goal.returns
returns c = search word_laws
