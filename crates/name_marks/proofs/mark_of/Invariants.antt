-- `name_marks::mark_of` meets its contract. The invariant: the bytes that are left make the name's mark of the one so far. Assumes nothing.
use Prim.Native.Nat.{◌+◌, ◌-◌, ◌<◌}
use mathlib.Core.Path.{◌≡◌}
use Rattle.table.specs.Table.{bytes_at}
use Rattle.name_marks.specs.Marks.{mark_from, mark_of}
use Rattle.name_marks.proofs.mark_of.Given as goal

abbrev pub invariant-loop-at : goal.invariant-loop-at
invariant-loop-at l = (mark_of (bytes_at l.text l.start l.len) ≡ mark_from l.mark (bytes_at l.text l.at (l.start + l.len - l.at))) × (l.mark < 512)
