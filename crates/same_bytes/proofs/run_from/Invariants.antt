-- `same_bytes::run_from` meets its contract. The invariant: k entries stay as they are and adjoin, and have so many bytes. Assumes nothing.
use Prim.Native.Nat.{◌+◌, ◌*◌, ◌-◌, ◌≤◌}
use Rattle.same_bytes.specs.Same.{Adjoin}
use Rattle.same_bytes.proofs.run_from.Given as goal

abbrev pub invariant-loop-k : goal.invariant-loop-k
invariant-loop-k l = (l.bytes ≤ l.k * 4294967296) × Adjoin l.plan l.source_half l.destination_half l.i l.to l.from l.k l.bytes
