-- `piece_moves::move_each` meets its contract. The loop's invariant: the piece is moved in the first i records. Assumes nothing.
use mathlib.Core.Path.{◌≡◌}
use Prim.Native.Nat.{◌≤◌, ◌-◌}
use lib.ListN.{length}
use Rattle.piece_moves.specs.Pieces.{each_piece}
use Rattle.piece_moves.proofs.move_each.Given as goal

abbrev pub invariant-loop-i : goal.invariant-loop-i
invariant-loop-i l = (length l.dst ≡ length l.initial.dst) × (l.dst ≡ each_piece l.bytes l.destination_byte l.source_byte l.source_size l.destination_size l.src l.i l.initial.dst)
