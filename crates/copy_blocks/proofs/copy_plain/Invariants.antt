-- `copy_blocks::copy_plain` meets its contract. The loop's invariant: before record i the destination is the result's, from it on as it was at the call,
-- and each slot that has a pair of types has its words. Assumes nothing.
use mathlib.Core.Path.{◌≡◌}
use Prim.Native.Nat.{◌-◌, ◌≤◌}
use lib.ListN.{length}
use Rattle.plans.specs.PlanWords.{Job}
use Rattle.loops.specs.Steps.{Done}
use Rattle.column_slots.specs.Slots.{Kept}
use Rattle.copy_blocks.proofs.copy_plain.Given as goal

abbrev pub invariant-loop-i : goal.invariant-loop-i
invariant-loop-i l = (l.i ≤ l.count) × (length l.dst ≡ length l.initial.dst) × (length l.slots ≡ 1024) × (length l.narrow ≡ 256) × (length l.wide ≡ 256) × Kept l.slots l.source_half l.destination_half
    × ((j : Job l.source_size l.destination_size l.plan l.entries l.source_half l.destination_half l.words) → Done j.source j.destination l.destination_size l.count l.src l.initial.dst l.i l.dst l.raised)

abbrev pub decreases-loop-i : goal.decreases-loop-i
decreases-loop-i l = l.count - l.i
