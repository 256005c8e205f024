-- `name_ids::rows_in` meets its contract. The invariant: the rows of the first i types are covered. Assumes nothing.
use Prim.Native.Nat.{ℕ, ◌≤◌, ◌<◌}
use Rattle.name_ids.proofs.Ids.{Covers}
use Rattle.name_ids.proofs.rows_in.Given as goal

abbrev pub invariant-loop-i : goal.invariant-loop-i
invariant-loop-i l = (l.rows ≤ 256) × ((t : ℕ) → t < l.i → Covers l.half t l.rows)
