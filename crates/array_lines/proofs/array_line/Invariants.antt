-- `array_lines::array_line` meets its contract: what is still to be read is what the definition says of the whole line. Assumes nothing.
use Rattle.line.specs.Line.{array_line_of}
use Rattle.line.specs.Read.{columns_reading}
use Rattle.line.proofs.Arrays.{Dims}
use Rattle.array_lines.proofs.array_line.Given as goal

abbrev pub invariant-loop-n : goal.invariant-loop-n
invariant-loop-n l = Dims l.s l.base.value l.n l.dims l.at (columns_reading l.s l.q array_line_of)
