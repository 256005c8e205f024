-- `row_lines::member_line` meets its contract. Assumes nothing.
use Rattle.line.specs.Line.{member_line_of}
use Rattle.line.proofs.Readings.{line_laws}
use Rattle.row_lines.proofs.member_line.Goals as goal

pub returns-in_default : goal.returns-in_default
unfolding member_line_of
returns-in_default c = search (line_laws, c.in_default.ensures) depth 14

pub returns-in_default-number_column : goal.returns-in_default-number_column
unfolding member_line_of
returns-in_default-number_column c = search (line_laws, c.in-Some.ensures, c.in_default-number_column.ensures) depth 14

pub returns-in_default-number_column-2 : goal.returns-in_default-number_column-2
unfolding member_line_of
returns-in_default-number_column-2 c = search (line_laws, c.in-Some.ensures, c.in-Some-number_column.ensures, c.in_default-number_column-2.ensures) depth 14

pub returns-in_default-word_column : goal.returns-in_default-word_column
unfolding member_line_of
returns-in_default-word_column c = search (line_laws, c.in-Some.ensures, c.in-Some-number_column.ensures, c.in-Some-number_column-2.ensures, c.in_default-word_column.ensures) depth 14

pub returns-in_default-next_line : goal.returns-in_default-next_line
unfolding member_line_of
returns-in_default-next_line c = search (line_laws, c.in-Some.ensures, c.in-Some-number_column.ensures, c.in-Some-number_column-2.ensures, c.in-Some-word_column.ensures, c.in_default-next_line.ensures) depth 14

pub returns : goal.returns
unfolding member_line_of
returns c = search (line_laws, c.in-Some.ensures, c.in-Some-number_column.ensures, c.in-Some-number_column-2.ensures, c.in-Some-word_column.ensures, c.in-Some-next_line.ensures) depth 14
