-- `plan_parts::all_come_again` meets its contract. The invariant: each entry before i comes again. Assumes nothing.
use Prim.Native.Nat.{ℕ, ◌+◌, ◌-◌, ◌≤◌, ◌<◌}
use Rattle.plan_parts.specs.Again.{Again}
use Rattle.plan_parts.proofs.all_come_again.Given as goal

abbrev pub invariant-loop-i : goal.invariant-loop-i
invariant-loop-i l = (j : ℕ) → j < l.i → Again l.plan l.part_entries l.source_part l.destination_part l.source_half l.destination_half j
