-- `row_rules::product::total` meets its contract. The invariant: p times the product of the dimensions that are left is the total. Assumes nothing.
use native.Mathlib.Omega.{arith}
use Rattle.sheet_steps.proofs.Totals.{left_none, left_zero, total_ends, total_many}
use Rattle.row_rules.proofs.product.total.Goals as goal

pub returns-then-p-gt-MOST_BYTES : goal.returns-then-p-gt-MOST_BYTES
returns-then-p-gt-MOST_BYTES c = total_many _ _ c.loop-d.p c.loop-d.d-index (omega arith) c.loop-d.invariant

pub returns-then-d-eq0 : goal.returns-then-d-eq0
returns-then-d-eq0 c = total_ends _ _ c.loop-d.p c.loop-d.d-index (omega arith) (left_zero c.args.dims c.loop-d.d-index (omega arith) c.if-d-eq0.true) c.loop-d.invariant

pub returns-then-p-gt-MOST_BYTES-2 : goal.returns-then-p-gt-MOST_BYTES-2
returns-then-p-gt-MOST_BYTES-2 c = total_many _ _ c.loop-d.p c.loop-d.d-index (omega arith) c.loop-d.invariant

pub returns-else-p-gt-MOST_BYTES-2 : goal.returns-else-p-gt-MOST_BYTES-2
returns-else-p-gt-MOST_BYTES-2 c = total_ends _ _ c.loop-d.p c.loop-d.d-index (omega arith) (left_none c.args.dims c.loop-d.d-index (omega arith)) c.loop-d.invariant
