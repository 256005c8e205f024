-- `paths::dimensions::are_equal` meets its contract. The loop's invariant: all before dimension q are equal, so what is left decides. Assumes nothing.
use mathlib.Core.Path.{◌≡◌}
use Rattle.datatype.specs.Datatype.{same}
use Rattle.table.specs.Table.{up_to_zero}
use Rattle.paths.proofs.SameDimensions.{same_from}
use Rattle.paths.proofs.dimensions.are_equal.Given as goal

abbrev pub invariant-loop-q : goal.invariant-loop-q
invariant-loop-q l = same_from l.a l.b l.q ≡ same (up_to_zero l.a) (up_to_zero l.b)
