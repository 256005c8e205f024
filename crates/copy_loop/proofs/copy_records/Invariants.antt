-- `copy_loop::copy_records` meets its contract. The loop's invariant: before record i the destination is the result's, from it on as
-- it was at the call, if this holds where the loop begins. Assumes nothing.
use mathlib.Core.Path.{◌≡◌}
use mathlib.Core.List.{List}
use Prim.Native.Nat.{ℕ, ◌≤◌, ◌*◌}
use lib.ListN.{length}
use Rattle.plans.specs.PlanWords.{Job}
use Rattle.loops.specs.Steps.{Done}
use Rattle.copy_loop.proofs.copy_records.Given as goal

abbrev pub invariant-loop-i : goal.invariant-loop-i
invariant-loop-i l = (length l.dst ≡ length l.initial.dst) × (l.total ≤ 4096 * l.i)
    × ((j : Job l.source_size l.destination_size l.plan l.entries l.source_half l.destination_half l.words) (was : List ℕ) → length l.initial.dst ≡ length was → l.count * l.destination_size ≤ length was → Done j.source j.destination l.destination_size l.count l.src was l.initial.i l.initial.dst l.initial.total → Done j.source j.destination l.destination_size l.count l.src was l.i l.dst l.total)
