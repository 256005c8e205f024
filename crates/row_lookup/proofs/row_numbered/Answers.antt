-- `row_lookup::row_numbered` meets its contract. The invariant: the row is among those that are left. Assumes nothing.
use mathlib.Core.Path.{sym, ◌∙◌}
use Rattle.table.proofs.Lookups.{numbered_none, numbered_hit, numbered_skip}
use Rattle.row_lookup.proofs.row_numbered.Goals as goal

pub returns-then-has_number : goal.returns-then-has_number
returns-then-has_number c = sym (c.loop-i.invariant ∙ numbered_hit _ _ _ _ c.loop-i-test.true c.has_number.ensures c.if-has_number.true)

pub loop-i-preserved : goal.loop-i-preserved
loop-i-preserved c = c.loop-i.invariant ∙ numbered_skip _ _ _ _ c.loop-i-test.true c.has_number.ensures c.if-has_number.false

pub returns : goal.returns
returns c = sym (c.loop-i.invariant ∙ numbered_none _ _ _ _ c.loop-i-test.false)
