-- `row_lines::value_line` meets its contract. Assumes nothing.
use Rattle.line.proofs.Readings.{line_laws}
use Rattle.row_lines.proofs.value_line.Goals as goal

pub returns-in_default : goal.returns-in_default
returns-in_default c = search (line_laws, c.in_default.ensures) depth 12

pub returns-in_default-whole_column : goal.returns-in_default-whole_column
returns-in_default-whole_column c = search (line_laws, c.in-Some.ensures, c.in_default-whole_column.ensures) depth 12

pub returns-in_default-next_line : goal.returns-in_default-next_line
returns-in_default-next_line c = search (line_laws, c.in-Some.ensures, c.in-Some-whole_column.ensures, c.in_default-next_line.ensures) depth 12

pub returns : goal.returns
returns c = search (line_laws, c.in-Some.ensures, c.in-Some-whole_column.ensures, c.in-Some-next_line.ensures) depth 12
