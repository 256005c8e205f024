-- `symbol_sets::symbols_stand` meets its contract. The invariant: the answer is that of the rows that are left. Assumes nothing.
use mathlib.Core.Path.{◌≡◌}
use Prim.Native.Nat.{◌+◌, ◌<◌}
use Rattle.datatype.specs.SymbolSets.{all_stand_in}
use Rattle.table.specs.Table.{symbols_at}
use Rattle.symbol_sets.specs.Seen.{symbols_of_type, all_stand}
use Rattle.symbol_sets.proofs.symbols_stand.Given as goal

abbrev pub invariant-loop-i : goal.invariant-loop-i
invariant-loop-i l = (all_stand l.source_half l.source_sheet l.source_type l.destination_half l.destination_sheet l.destination_type ≡ all_stand_in (symbols_at l.source_half l.source_sheet l.first_symbol l.i) (symbols_of_type l.destination_half l.destination_sheet l.destination_type)) × (l.first_symbol + l.i < 8589934592)
