-- `atomic_lines::real_line` meets its contract. Assumes nothing.
use Rattle.line.specs.Line.{real_line_of}
use Rattle.line.proofs.Readings.{line_laws}
use Rattle.atomic_lines.proofs.real_line.Goals as goal

pub returns-in_default : goal.returns-in_default
unfolding real_line_of
returns-in_default c = search (line_laws, c.in_default.ensures) depth 12

pub returns-in_default-order_column : goal.returns-in_default-order_column
unfolding real_line_of
returns-in_default-order_column c = search (line_laws, c.in-Some.ensures, c.in_default-order_column.ensures) depth 12

pub returns-in_default-next_line : goal.returns-in_default-next_line
unfolding real_line_of
returns-in_default-next_line c = search (line_laws, c.in-Some.ensures, c.in-Some-order_column.ensures, c.in_default-next_line.ensures) depth 12

pub returns : goal.returns
unfolding real_line_of
returns c = search (line_laws, c.in-Some.ensures, c.in-Some-order_column.ensures, c.in-Some-next_line.ensures) depth 12
