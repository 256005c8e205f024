-- `paths::types::gap_end` meets its contract. The invariant: of the rows that were looked at, no member starts before `at`. Assumes nothing.
use Prim.Native.Nat.{◌≤◌}
use Rattle.paths.specs.Steps.{GapEnd}
use Rattle.paths.proofs.types.gap_end.Given as goal

abbrev pub invariant-loop-i : goal.invariant-loop-i
invariant-loop-i l = GapEnd l.half l.first l.i l.n l.byte l.end l.at
