-- `in_place_loop::replace_down` meets its contract: blocks, then record by record. The loop's invariant: from where record i goes the buffer is the result's, up to source record i as it was, if so it was before. Assumes nothing.
use mathlib.Core.Path.{◌≡◌}
use mathlib.Core.List.{List}
use Prim.Native.Nat.{ℕ}
use lib.ListN.{length}
use Rattle.plans.specs.PlanWords.{Job}
use Rattle.loops.specs.Steps.{Down}
use Rattle.in_place_loop.proofs.replace_down.Given as goal

abbrev pub invariant-loop-i : goal.invariant-loop-i
invariant-loop-i l = (length l.buf ≡ length l.initial.buf) × (length l.staging ≡ 4096)
    × ((j : Job l.source_size l.destination_size l.plan l.entries l.source_half l.destination_half l.words) (first : List ℕ) → length l.initial.buf ≡ length first → Down j.source j.destination l.source_size l.destination_size l.count first l.background l.initial.i l.initial.buf l.initial.total → Down j.source j.destination l.source_size l.destination_size l.count first l.background l.i l.buf l.total)
