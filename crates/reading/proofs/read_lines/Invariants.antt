-- `reading::read_lines` meets its contract. The invariant: the lines so far were accepted, and those left decide (`Loop`). Assumes nothing.
use Prim.Native.Nat.{◌-◌}
use lib.ListN.{length}
use Rattle.sheet_steps.proofs.Loop.{Before}
use Rattle.reading.proofs.read_lines.Given as goal

abbrev pub invariant-loop-at : goal.invariant-loop-at
invariant-loop-at l = Before l.sheet l.half l.at l.so_far l.k

abbrev pub decreases-loop-at : goal.decreases-loop-at
decreases-loop-at l = length l.sheet - l.at
