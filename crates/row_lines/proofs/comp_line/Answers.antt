-- `row_lines::comp_line` meets its contract. Assumes nothing.
use Rattle.line.specs.Line.{compound_line_of}
use Rattle.line.proofs.Readings.{line_laws}
use Rattle.row_lines.proofs.comp_line.Goals as goal

pub returns-in_default : goal.returns-in_default
unfolding compound_line_of
returns-in_default c = search (line_laws, c.in_default.ensures) depth 12

pub returns-in_default-next_line : goal.returns-in_default-next_line
unfolding compound_line_of
returns-in_default-next_line c = search (line_laws, c.in-Some.ensures, c.in_default-next_line.ensures) depth 12

pub returns : goal.returns
unfolding compound_line_of
returns c = search (line_laws, c.in-Some.ensures, c.in-Some-next_line.ensures) depth 12
