-- `row_lookup::row_numbered` meets its contract. The invariant: the row is among those that are left. Assumes nothing.
use mathlib.Core.Path.{◌≡◌}
use Rattle.number.specs.Parts.{signed_by}
use Rattle.table.specs.Rows.{row_numbered}
use Rattle.row_lookup.proofs.row_numbered.Given as goal

abbrev pub invariant-loop-i : goal.invariant-loop-i
invariant-loop-i l = row_numbered l.half (signed_by l.negative l.distance) l.first l.n ≡ row_numbered l.half (signed_by l.negative l.distance) l.first l.i
