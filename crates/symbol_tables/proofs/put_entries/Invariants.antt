-- `symbol_tables::put_entries` meets its contract. The invariant: the first j entries are put. Assumes nothing.
use mathlib.Core.Path.{◌≡◌}
use Prim.Native.Nat.{◌-◌, ◌≤◌}
use lib.ListN.{length}
use Rattle.symbol_tables.proofs.Steps.{Entries}
use Rattle.symbol_tables.proofs.put_entries.Given as goal

abbrev pub invariant-loop-j : goal.invariant-loop-j
invariant-loop-j l = (length l.table ≡ length l.initial.table) × Entries l.table l.words l.start l.j l.half l.precision
