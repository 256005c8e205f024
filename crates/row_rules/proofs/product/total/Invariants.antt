-- `row_rules::product::total` meets its contract. The invariant: p times the product of the dimensions that are left is the total. Assumes nothing.
use Prim.Native.Nat.{◌*◌}
use mathlib.Core.Path.{◌≡◌}
use Rattle.datatype.specs.Datatype.{elements}
use Rattle.table.specs.Table.{up_to_zero}
use Rattle.sheet_steps.proofs.Totals.{left}
use Rattle.row_rules.proofs.product.total.Given as goal

abbrev pub invariant-loop-d : goal.invariant-loop-d
invariant-loop-d l = l.p * left l.d-items l.d-index ≡ elements (up_to_zero l.d-items) * l.size
