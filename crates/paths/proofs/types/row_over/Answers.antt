-- `paths::types::row_over` meets its contract. The invariant: the row is among those that are left. Assumes nothing.
use mathlib.Core.Path.{refl, sym, ◌∙◌}
use native.Mathlib.Omega.{arith}
use Rattle.paths.proofs.Rows.{over_none, over_hit, over_skip}
use Rattle.paths.proofs.types.row_over.Goals as goal

pub returns-then-row_covers : goal.returns-then-row_covers
returns-then-row_covers c = sym (c.loop-i.invariant ∙ over_hit _ _ _ _ c.loop-i-test.true c.row_covers.ensures c.if-row_covers.true)

pub loop-i-preserved : goal.loop-i-preserved
loop-i-preserved c = c.loop-i.invariant ∙ over_skip _ _ _ _ c.loop-i-test.true c.row_covers.ensures c.if-row_covers.false

pub returns : goal.returns
returns c = sym (c.loop-i.invariant ∙ over_none _ _ _ _ c.loop-i-test.false)
