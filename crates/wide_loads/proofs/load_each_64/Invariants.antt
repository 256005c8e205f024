-- `wide_loads::load_each_64` meets its contract. The loop's invariant: the first i containers are there. Assumes nothing.
use Rattle.blocks.proofs.Turns.{Loaded}
use Rattle.wide_loads.proofs.load_each_64.Given as goal

abbrev pub invariant-loop-i : goal.invariant-loop-i
invariant-loop-i l = Loaded l.order l.size l.byte l.record_size l.src l.i l.t
