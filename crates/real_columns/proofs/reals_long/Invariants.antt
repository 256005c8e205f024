-- `real_columns::reals_long` meets its contract. The loop's invariant: the first i numbers are made, those from i on as they were, and exceptions counted. Assumes nothing.
use Rattle.std.proofs.Common.{◌-◌, ◌≤◌}
use Rattle.real_columns.specs.Reals.{real_by}
use Rattle.real_columns.proofs.Making.{Turned}
use Rattle.real_columns.proofs.reals_long.Given as goal

abbrev pub invariant-loop-i : goal.invariant-loop-i
invariant-loop-i l = Turned (real_by l.shift l.mask l.signed l.precision) l.up l.ones l.initial.t l.t l.i l.raised
