-- `leaf_lines::put_lines` meets its contract. Assumes nothing.
use Rattle.leaf_lines.proofs.Lines.{Writing}
use Rattle.leaf_lines.proofs.put_lines.Given as goal

abbrev pub invariant-loop-byte : goal.invariant-loop-byte
invariant-loop-byte l = Writing l.half l.type_number l.size l.initial.list l.start l.list l.at l.byte
