-- `planning::stop_plan` meets its contract. The invariant: the entries so far, and then those of the bytes from b on, are the plan. Assumes nothing.
use Prim.Native.Nat.{◌-◌}
use Rattle.planning.proofs.StopPlans.{Going}
use Rattle.planning.proofs.stop_plan.Given as goal

abbrev pub invariant-loop-byte : goal.invariant-loop-byte
invariant-loop-byte l = Going l.source_half l.source_sheet l.source_type l.destination_half l.destination_sheet l.destination_type l.handling l.initial.plan l.bytes l.plan l.entries l.byte

abbrev pub decreases-loop-byte : goal.decreases-loop-byte
decreases-loop-byte l = l.bytes - l.byte
