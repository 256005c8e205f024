-- `wide_stores::store_each_64` meets its contract. The loop's invariant: the first i records are written, and record i begins at start. Assumes nothing.
use mathlib.Core.Path.{◌≡◌}
use Prim.Native.Nat.{◌*◌}
use lib.ListN.{length}
use Rattle.blocks.proofs.Turns.{merged}
use Rattle.wide_stores.proofs.store_each_64.Given as goal

abbrev pub invariant-loop-i : goal.invariant-loop-i
invariant-loop-i l = (l.start ≡ l.i * l.record_size) × (length l.dst ≡ length l.initial.dst) × (l.dst ≡ merged l.order l.size l.byte 0 l.t l.record_size l.i l.initial.dst)
