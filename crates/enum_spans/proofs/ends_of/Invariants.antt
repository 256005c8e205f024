-- `enum_spans::ends_of` meets its contract. The loop's invariant: the rows before q are between `low` and `end`. Assumes nothing.
use Prim.Native.Nat.{◌^◌, ◌≤◌, ◌<◌}
use Rattle.plans.specs.Spans.{RowsIn}
use Rattle.enum_spans.proofs.ends_of.Given as goal

abbrev pub invariant-loop-q : goal.invariant-loop-q
invariant-loop-q l = RowsIn l.half l.precision l.first l.q l.low l.end × (l.low < 4294967296) × (l.end ≤ 2 ^ l.precision)
