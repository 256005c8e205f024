-- `column_makes::count_64` meets its contract. The loop's invariant: those of the first i numbers that lie outside are counted. Assumes nothing.
use Rattle.column_steps.proofs.Making.{outside_by, Counted}
use Rattle.column_makes.proofs.count_64.Given as goal

abbrev pub invariant-loop-i : goal.invariant-loop-i
invariant-loop-i l = Counted (outside_by l.shift l.half l.mask l.low l.high) l.t l.i l.raised
