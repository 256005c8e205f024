-- `symbol_slots::find` meets its contract. The invariant: none of the first j tables has x for its word 0. Assumes nothing.
use mathlib.Core.Path.{◌≡◌}
use Prim.Native.Nat.{ℕ, ◌-◌, ◌≤◌, ◌<◌}
use lib.ListN.{get_or}
use Rattle.symbol_slots.specs.Tables.{table_in}
use Rattle.symbol_slots.proofs.find.Given as goal

abbrev pub invariant-loop-j : goal.invariant-loop-j
invariant-loop-j l = (i : ℕ) → i < l.j → get_or (table_in l.tables i) 0 0 ≡ l.x → ⊥
