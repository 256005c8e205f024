-- `paths::types::row_over` meets its contract. The invariant: the row is among those that are left. Assumes nothing.
use Prim.Native.Nat.{◌≤◌}
use mathlib.Core.Path.{◌≡◌}
use Rattle.paths.specs.Steps.{row_over}
use Rattle.paths.proofs.types.row_over.Given as goal

abbrev pub invariant-loop-i : goal.invariant-loop-i
invariant-loop-i l = row_over l.half l.first l.n l.byte ≡ row_over l.half l.first l.i l.byte
