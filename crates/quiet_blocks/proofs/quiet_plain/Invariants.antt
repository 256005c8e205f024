-- `quiet_blocks::quiet_plain` meets its contract. The invariant: the first exception is among the records from i on, and the slots have the words of their pairs. Assumes nothing.
use mathlib.Core.Path.{◌≡◌}
use Prim.Native.Nat.{ℕ, ◌-◌, ◌≤◌}
use lib.ListN.{length}
use Rattle.records.specs.Plan.{plan_of}
use Rattle.plans.specs.PlanWords.{Job}
use Rattle.loops.specs.Stops.{stop_by}
use Rattle.column_slots.specs.Slots.{Kept}
use Rattle.quiet_blocks.proofs.quiet_plain.Given as goal

abbrev pub invariant-loop-i : goal.invariant-loop-i
invariant-loop-i l = (l.i ≤ l.count) × (length l.slots ≡ 1024) × (length l.narrow ≡ 256) × (length l.wide ≡ 256) × Kept l.slots l.source_half l.destination_half
    × ((d : ℕ) (j : Job l.source_size d l.plan l.entries l.source_half l.destination_half l.words) → stop_by (plan_of j.source j.destination) l.source_size l.src 0 l.count ≡ stop_by (plan_of j.source j.destination) l.source_size l.src l.i (l.count - l.i))

abbrev pub decreases-loop-i : goal.decreases-loop-i
decreases-loop-i l = l.count - l.i
