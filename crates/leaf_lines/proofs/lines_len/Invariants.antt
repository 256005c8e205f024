-- `leaf_lines::lines_len` meets its contract. Assumes nothing.
use Rattle.leaf_lines.proofs.Lines.{Counted}
use Rattle.leaf_lines.proofs.lines_len.Given as goal

abbrev pub invariant-loop-b : goal.invariant-loop-b
invariant-loop-b l = Counted l.half l.type_number l.size l.n l.b
