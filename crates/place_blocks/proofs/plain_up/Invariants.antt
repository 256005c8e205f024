-- `place_blocks::plain_up` meets its contract. The loop's invariant: up to where record i goes the buffer is the result's, from source record i on as it was. Assumes nothing.
use mathlib.Core.Path.{◌≡◌}
use Prim.Native.Nat.{◌≤◌, ◌-◌}
use lib.ListN.{length}
use Rattle.plans.specs.PlanWords.{Job}
use Rattle.column_slots.specs.Slots.{Kept}
use Rattle.loops.specs.Steps.{Up}
use Rattle.place_blocks.proofs.plain_up.Given as goal

abbrev pub invariant-loop-i : goal.invariant-loop-i
invariant-loop-i l = (l.i ≤ l.count) × (length l.buf ≡ length l.initial.buf) × (length l.staging ≡ length l.initial.staging) × (length l.slots ≡ 1024) × (length l.narrow ≡ 256) × (length l.wide ≡ 256) × Kept l.slots l.source_half l.destination_half
    × ((j : Job l.source_size l.destination_size l.plan l.entries l.source_half l.destination_half l.words) → Up j.source j.destination l.source_size l.destination_size l.count l.initial.buf l.background l.i l.buf l.raised)

abbrev pub decreases-loop-i : goal.decreases-loop-i
decreases-loop-i l = l.count - l.i
