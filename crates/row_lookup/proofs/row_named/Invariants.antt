-- `row_lookup::row_named` meets its contract. The invariant: the row is among those that are left. Assumes nothing.
use mathlib.Core.Path.{◌≡◌}
use Rattle.table.specs.Table.{bytes_at}
use Rattle.table.specs.Rows.{row_named}
use Rattle.row_lookup.proofs.row_named.Given as goal

abbrev pub invariant-loop-i : goal.invariant-loop-i
invariant-loop-i l = row_named l.half l.sheet (bytes_at l.x l.start l.len) l.first l.n ≡ row_named l.half l.sheet (bytes_at l.x l.start l.len) l.first l.i
