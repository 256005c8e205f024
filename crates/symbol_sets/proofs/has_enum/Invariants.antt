-- `symbol_sets::has_enum` meets its contract. The invariant: the answer is that of the types that are left. Assumes nothing.
use mathlib.Core.Path.{◌≡◌}
use Prim.Native.Nat.{◌≤◌}
use Rattle.symbol_sets.specs.Seen.{any_enum}
use Rattle.symbol_sets.proofs.has_enum.Given as goal

abbrev pub invariant-loop-k : goal.invariant-loop-k
invariant-loop-k l = any_enum l.half 64 ≡ any_enum l.half l.k
