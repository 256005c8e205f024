-- `array_lines::array_line` meets its contract: what is still to be read is what the definition says of the whole line. Assumes nothing.
use Rattle.line.proofs.Arrays.{array_laws}
use Rattle.array_lines.proofs.array_line.Goals as goal

pub returns-in_default : goal.returns-in_default
returns-in_default c = search (array_laws, c.in_default.ensures)

pub loop-n-init : goal.loop-n-init
loop-n-init c = search (array_laws, c.in-Some.ensures)

pub returns-in_default-number_column : goal.returns-in_default-number_column
returns-in_default-number_column c = search (array_laws, c.in_default-number_column.ensures)

pub returns-then-dimension-eq0 : goal.returns-then-dimension-eq0
returns-then-dimension-eq0 c = search (array_laws, c.in-Some-number_column.ensures)

pub returns-in-Some-next_line : goal.returns-in-Some-next_line
returns-in-Some-next_line c = search (array_laws, c.in-Some-number_column.ensures, c.in-Some-next_line.ensures)

pub loop-n-preserved : goal.loop-n-preserved
loop-n-preserved c = search (array_laws, c.in-Some-number_column.ensures, c.in_default-next_line.ensures)

pub returns : goal.returns
returns c = search array_laws
