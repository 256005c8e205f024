-- `column_makes::easy_each_32` meets its contract. The loop's invariant: the first i numbers are made, and those from i on as they were. Assumes nothing.
use Rattle.column_steps.proofs.Making.{number_by, Made}
use Rattle.column_makes.proofs.easy_each_32.Given as goal

abbrev pub invariant-loop-i : goal.invariant-loop-i
invariant-loop-i l = Made (number_by l.shift l.half l.mask 0 l.mask l.into l.up l.ones) l.initial.t l.t l.i
