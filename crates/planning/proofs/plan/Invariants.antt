-- `planning::plan` meets its contract. The invariant: the entries so far, and then those of the bytes from b on, are the plan. Assumes nothing.
use Prim.Native.Nat.{◌-◌}
use Rattle.table.specs.Table.{type_at}
use Rattle.paths.proofs.Entries.{Filled}
use Rattle.planning.proofs.plan.Given as goal

abbrev pub invariant-loop-destination_byte : goal.invariant-loop-destination_byte
invariant-loop-destination_byte l = Filled l.source_half l.source_sheet l.destination_half l.destination_sheet (type_at l.source_half l.source_sheet l.source_type) (type_at l.destination_half l.destination_sheet l.destination_type) l.initial.plan l.bytes l.plan l.entries l.destination_byte

abbrev pub decreases-loop-destination_byte : goal.decreases-loop-destination_byte
decreases-loop-destination_byte l = l.bytes - l.destination_byte
