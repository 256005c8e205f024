-- `paths::leaf::leaf_at` meets its contract. The invariant: the leaf is that at byte `at` of type k, to the depth that is left. Assumes nothing.
use mathlib.Core.Path.{◌≡◌}
use mathlib.Core.List.{List}
use Prim.Native.Nat.{ℕ, ◌-◌}
use Rattle.datatype.specs.Leaves.{leaf_at}
use Rattle.table.specs.Table.{decode, type_at}
use Rattle.paths.proofs.leaf.leaf_at.Given as goal

abbrev pub invariant-loop : goal.invariant-loop
invariant-loop l = (t : List ℕ) → leaf_at (type_at l.half t l.type_number) l.byte ≡ leaf_at (decode (64 - l.counter) l.half t l.k) l.at
