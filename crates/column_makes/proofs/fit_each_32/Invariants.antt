-- `column_makes::fit_each_32` meets its contract. The loop's invariant: the first i numbers are made, those from i on as they were, and those outside counted. Assumes nothing.
use Rattle.column_steps.proofs.Making.{number_by, outside_by, Made, Counted}
use Rattle.column_makes.proofs.fit_each_32.Given as goal

abbrev pub invariant-loop-i : goal.invariant-loop-i
invariant-loop-i l = Made (number_by l.shift l.half l.mask l.low l.high l.into l.up l.ones) l.initial.t l.t l.i × Counted (outside_by l.shift l.half l.mask l.low l.high) l.initial.t l.i l.raised
