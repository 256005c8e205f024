-- `whole_moves::move_each` meets its contract. The loop's invariant: the first i records are written, and x and y are where record i begins. Assumes nothing.
use Rattle.std.proofs.Common.{◌≡◌, ◌-◌, ◌*◌, ◌≤◌, length}
use Rattle.whole_moves.proofs.Moving.{each_moved}
use Rattle.whole_moves.proofs.move_each.Given as goal

abbrev pub invariant-loop-i : goal.invariant-loop-i
invariant-loop-i l = (l.x ≡ l.i * l.source_size) × (l.y ≡ l.i * l.destination_size) × (length l.dst ≡ length l.initial.dst) × (l.dst ≡ each_moved l.from l.n l.to l.m l.half l.destination_byte l.source_byte l.source_size l.destination_size l.src l.i l.initial.dst)
