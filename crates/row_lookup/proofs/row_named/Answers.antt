-- `row_lookup::row_named` meets its contract. The invariant: the row is among those that are left. Assumes nothing.
use mathlib.Core.Path.{sym, ◌∙◌}
use Rattle.table.proofs.Lookups.{named_none, named_hit, named_skip}
use Rattle.row_lookup.proofs.row_named.Goals as goal

pub returns-then-has_name : goal.returns-then-has_name
returns-then-has_name c = sym (c.loop-i.invariant ∙ named_hit _ _ _ _ _ c.loop-i-test.true c.has_name.ensures c.if-has_name.true)

pub loop-i-preserved : goal.loop-i-preserved
loop-i-preserved c = c.loop-i.invariant ∙ named_skip _ _ _ _ _ c.loop-i-test.true c.has_name.ensures c.if-has_name.false

pub returns : goal.returns
returns c = sym (c.loop-i.invariant ∙ named_none _ _ _ _ _ c.loop-i-test.false)
