-- `whole_writes::writes_each_byte` meets its contract. The invariant: from entry i on the leaves are written anew and adjoin, from byte `end` on up to the record's end. Assumes nothing.
use Prim.Native.Nat.{◌-◌}
use Rattle.whole_writes.specs.Writes.{WritesFrom}
use Rattle.whole_writes.proofs.writes_each_byte.Given as goal

abbrev pub invariant-loop-i : goal.invariant-loop-i
invariant-loop-i l = WritesFrom l.destination_size l.plan l.destination_half l.i (l.entries - l.i) l.end
