-- `column_caps::cap_each_31` meets its contract. The loop's invariant: the first i numbers are made, those from i on as they were, and those outside counted. Assumes nothing.
use Rattle.column_steps.proofs.Making.{number_by, outside_by, Made, Counted}
use Rattle.column_caps.proofs.cap_each_31.Given as goal

abbrev pub invariant-loop-i : goal.invariant-loop-i
invariant-loop-i l = Made (number_by l.shift l.half l.mask 0 l.high l.into l.up l.ones) l.initial.t l.t l.i × Counted (outside_by l.shift l.half l.mask 0 l.high) l.initial.t l.i l.raised
