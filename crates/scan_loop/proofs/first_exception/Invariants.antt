-- `scan_loop::first_exception` meets its contract. The loop's invariant: the first exception is among the records from i on. Assumes nothing.
use mathlib.Core.Path.{◌≡◌}
use Prim.Native.Nat.{ℕ, ◌-◌}
use Rattle.records.specs.Plan.{plan_of}
use Rattle.plans.specs.PlanWords.{Job}
use Rattle.loops.specs.Stops.{stop_by}
use Rattle.scan_loop.proofs.first_exception.Given as goal

abbrev pub invariant-loop-i : goal.invariant-loop-i
invariant-loop-i l = (d : ℕ) (j : Job l.source_size d l.plan l.entries l.source_half l.destination_half l.words) → stop_by (plan_of j.source j.destination) l.source_size l.src 0 l.count ≡ stop_by (plan_of j.source j.destination) l.source_size l.src l.i (l.count - l.i)
