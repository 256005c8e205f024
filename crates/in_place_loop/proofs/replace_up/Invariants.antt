-- `in_place_loop::replace_up` meets its contract: blocks, then record by record. The loop's invariant: up to where record i goes the buffer is the result's, from source record i on as it was, if so it was before. Assumes nothing.
use mathlib.Core.Path.{◌≡◌}
use mathlib.Core.List.{List}
use Prim.Native.Nat.{ℕ}
use lib.ListN.{length}
use Rattle.plans.specs.PlanWords.{Job}
use Rattle.loops.specs.Steps.{Up}
use Rattle.in_place_loop.proofs.replace_up.Given as goal

abbrev pub invariant-loop-i : goal.invariant-loop-i
invariant-loop-i l = (length l.buf ≡ length l.initial.buf) × (length l.staging ≡ 4096)
    × ((j : Job l.source_size l.destination_size l.plan l.entries l.source_half l.destination_half l.words) (first : List ℕ) → length l.initial.buf ≡ length first → Up j.source j.destination l.source_size l.destination_size l.count first l.background l.initial.i l.initial.buf l.initial.total → Up j.source j.destination l.source_size l.destination_size l.count first l.background l.i l.buf l.total)
