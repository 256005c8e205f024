-- `name_compare::same_bytes` meets its contract. The invariant: the names are the same if what is left of them is. Assumes nothing.
use Prim.Native.Nat.{◌+◌, ◌-◌, ◌*◌}
use mathlib.Core.Path.{◌≡◌}
use Rattle.datatype.specs.Datatype.{same}
use Rattle.table.specs.Table.{bytes_at}
use Rattle.name_compare.proofs.same_bytes.Given as goal

abbrev pub invariant-loop-k : goal.invariant-loop-k
invariant-loop-k l = same (bytes_at l.a l.i l.n) (bytes_at l.b l.j l.n) ≡ same (bytes_at l.a (l.i + l.k) (l.n - 2 * l.k)) (bytes_at l.b (l.j + l.k) (l.n - 2 * l.k))
