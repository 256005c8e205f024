-- `column_loads::turn_each_32` meets its contract. The loop's invariant: the first i numbers are turned round, and those from i on as they were. Assumes nothing.
use Rattle.column_loads.proofs.TwoBytes.{Turned}
use Rattle.column_loads.proofs.turn_each_32.Given as goal

abbrev pub invariant-loop-i : goal.invariant-loop-i
invariant-loop-i l = Turned l.initial.t l.t l.i
