-- `line_columns::next_line` meets its contract. Assumes nothing.
use Rattle.line.proofs.Columns.{next_laws}
use Rattle.line_columns.proofs.next_line.Goals as goal

pub returns-then-is_newline : goal.returns-then-is_newline
returns-then-is_newline c = search next_laws

pub returns-else-is_newline : goal.returns-else-is_newline
returns-else-is_newline c = search next_laws
