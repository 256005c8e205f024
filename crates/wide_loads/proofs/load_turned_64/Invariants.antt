-- `wide_loads::load_turned_64` meets its contract. The loop's invariant: the first i containers are there. Assumes nothing.
use Rattle.bits.specs.declared.Order.TheVariants.{BE}
use Rattle.blocks.proofs.Turns.{Loaded}
use Rattle.wide_loads.proofs.load_turned_64.Given as goal

abbrev pub invariant-loop-i : goal.invariant-loop-i
invariant-loop-i l = Loaded BE 2 l.byte l.record_size l.src l.i l.t
