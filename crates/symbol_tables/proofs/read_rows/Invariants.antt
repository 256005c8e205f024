-- `symbol_tables::read_rows` meets its contract. The invariant: the first i rows are read. Assumes nothing.
use mathlib.Core.Path.{◌≡◌}
use Prim.Native.Nat.{◌-◌, ◌≤◌}
use lib.ListN.{length}
use Rattle.symbol_tables.specs.Symbols.{RowsRead}
use Rattle.symbol_tables.proofs.read_rows.Given as goal

abbrev pub invariant-loop-i : goal.invariant-loop-i
invariant-loop-i l = (length l.rows ≡ length l.initial.rows) × RowsRead l.source_type l.destination_type l.source_half l.destination_half l.words l.place l.i l.rows
