-- `plan_parts::all_lie_in_part` meets its contract. The invariant: each entry before i lies in the first part. Assumes nothing.
use Prim.Native.Nat.{ℕ, ◌-◌, ◌≤◌, ◌<◌}
use Rattle.plan_parts.specs.Again.{Lies}
use Rattle.plan_parts.proofs.all_lie_in_part.Given as goal

abbrev pub invariant-loop-i : goal.invariant-loop-i
invariant-loop-i l = (j : ℕ) → j < l.i → Lies l.plan l.source_part l.destination_part l.source_half l.destination_half j
