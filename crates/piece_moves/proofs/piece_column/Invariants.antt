-- `piece_moves::piece_column` meets its contract. The loop's invariant: the first k bytes of the piece are moved in all records. Assumes nothing.
use mathlib.Core.Path.{◌≡◌}
use Prim.Native.Nat.{◌-◌, ◌≤◌}
use lib.ListN.{length}
use Rattle.piece_moves.specs.Pieces.{each_piece}
use Rattle.piece_moves.proofs.piece_column.Given as goal

abbrev pub invariant-loop-k : goal.invariant-loop-k
invariant-loop-k l = (l.k ≤ l.bytes) × (length l.dst ≡ length l.initial.dst) × (l.dst ≡ each_piece l.k l.destination_byte l.source_byte l.source_size l.destination_size l.src l.count l.initial.dst)

abbrev pub decreases-loop-k : goal.decreases-loop-k
decreases-loop-k l = l.bytes - l.k
