-- `wide_loads::load_bytes_64` meets its contract. The loop's invariant: the first i bytes are there. Assumes nothing.
use Rattle.bits.specs.declared.Order.{Order}
use Rattle.blocks.proofs.Turns.{Loaded}
use Rattle.wide_loads.proofs.load_bytes_64.Given as goal

abbrev pub invariant-loop-i : goal.invariant-loop-i
invariant-loop-i l = (order : Order) → Loaded order 1 l.byte l.record_size l.src l.i l.t
