-- `plan_parts::is_same_type` meets its contract. The invariant: the first k words are the same. Assumes nothing.
use mathlib.Core.Path.{◌≡◌}
use Prim.Native.Nat.{ℕ, ◌-◌, ◌≤◌, ◌<◌}
use Rattle.table.specs.Table.{type_word}
use Rattle.plan_parts.proofs.is_same_type.Given as goal

abbrev pub invariant-loop-k : goal.invariant-loop-k
invariant-loop-k l = (j : ℕ) → j < l.k → type_word l.half l.x j ≡ type_word l.half l.y j
