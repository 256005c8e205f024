-- `row_codes::row_alike` meets its contract. The invariant: the row is among those that are left. Assumes nothing.
use mathlib.Core.Path.{sym, ap, ◌∙◌}
use Rattle.plans.specs.PlanWords.{row_code}
use Rattle.plans.proofs.LeafSteps.{alike_none, alike_hit, alike_skip}
use Rattle.row_codes.proofs.row_alike.Goals as goal

pub returns-then-word-id : goal.returns-then-word-id
returns-then-word-id c = sym (ap row_code (c.loop-i.invariant ∙ alike_hit _ _ _ _ c.loop-i-test.true c.word.ensures c.if-word-id.true))

pub loop-i-preserved : goal.loop-i-preserved
loop-i-preserved c = c.loop-i.invariant ∙ alike_skip _ _ _ _ c.loop-i-test.true c.word.ensures c.if-word-id.false

pub returns : goal.returns
returns c = sym (ap row_code (c.loop-i.invariant ∙ alike_none _ _ _ _ c.loop-i-test.false))
