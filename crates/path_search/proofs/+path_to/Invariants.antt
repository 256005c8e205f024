-- `path_search::path_to` meets its contract. The calls go down by the depth; the loop's invariant: the answer is that of the rows that are left.
-- Assumes nothing.
use Prim.Native.Nat.{◌+◌, ◌<◌}
use Rattle.datatype.specs.Paths.{has_path, paths_to}
use Rattle.paths.proofs.Turns.{Remains}
use Rattle.path_search.proofs.+path_to.Given as goal

abbrev pub invariant-loop-i : goal.invariant-loop-i
invariant-loop-i l = Remains has_path paths_to l.depth l.source_half l.source_sheet l.source_type l.destination_half l.destination_sheet l.destination_type l.first l.i × (l.first + l.i < 8589934592)

abbrev pub decreases-path_to : goal.decreases-path_to
decreases-path_to l = l.depth
