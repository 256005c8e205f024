-- `symbol_sets::keeps_to` meets its contract. The calls go down by the depth; the loop's invariant: the answer is that of the rows that are left, and `seen`
-- says of pairs of enums what is so. Assumes nothing.
use Prim.Native.Nat.{◌+◌, ◌<◌}
use Rattle.datatype.specs.SymbolSets.{keeps_symbols, keeps_in}
use Rattle.paths.proofs.Turns.{Remains}
use Rattle.symbol_sets.specs.Seen.{Seen}
use Rattle.symbol_sets.proofs.+keeps_to.Given as goal

abbrev pub invariant-loop-i : goal.invariant-loop-i
invariant-loop-i l = Remains keeps_symbols keeps_in l.depth l.source_half l.source_sheet l.source_type l.destination_half l.destination_sheet l.destination_type l.first l.i × (l.first + l.i < 8589934592) × Seen l.source_half l.source_sheet l.destination_half l.destination_sheet l.seen

abbrev pub decreases-keeps_to : goal.decreases-keeps_to
decreases-keeps_to l = l.depth
