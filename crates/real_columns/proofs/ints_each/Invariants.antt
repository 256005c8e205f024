-- `real_columns::ints_each` meets its contract. The loop's invariant: the first i numbers are made, those from i on as they were, and exceptions counted. Assumes nothing.
use Rattle.std.proofs.Common.{◌-◌, ◌/◌, ◌^◌, ◌≤◌}
use lib.Bits.{bit_and}
use Rattle.reals.specs.Convert.{real_to_int_of}
use Rattle.real_columns.proofs.Making.{Turned}
use Rattle.real_columns.proofs.ints_each.Given as goal

abbrev pub invariant-loop-i : goal.invariant-loop-i
invariant-loop-i l = Turned (λ x. real_to_int_of l.signed l.precision (bit_and (x / 2 ^ l.shift) l.mask)) l.up l.ones l.initial.t l.t l.i l.raised
