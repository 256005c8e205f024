-- `loops::bytes::copy_bytes` meets its contract. The loop's invariant: the first j bytes are copied. Assumes nothing.
use mathlib.Core.Path.{◌≡◌}
use mathlib.Core.List.{◌++◌}
use lib.ListN.{length, take, drop}
use Rattle.loops.proofs.bytes.copy_bytes.Given as goal

abbrev pub invariant-loop-j : goal.invariant-loop-j
invariant-loop-j l = (length l.dst ≡ length l.initial.dst) × (l.dst ≡ take l.j l.src ++ drop l.j l.initial.dst)
