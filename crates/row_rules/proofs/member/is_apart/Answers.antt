-- `row_rules::member::is_apart` meets its contract. The invariant: the answer is that of the rows that are left. Assumes nothing.
use mathlib.Core.Path.{refl, sym, ◌∙◌}
use native.Mathlib.Omega.{arith}
use borrow.Author.Tests.{not-true, not-false}
use Rattle.sheet_steps.proofs.Apart.{apart_none, apart_hit, apart_skip}
use mathlib.Core.Path.{ap}
use mathlib.Core.Bool.{not}
use Rattle.row_rules.proofs.member.is_apart.Goals as goal

pub returns-then-not-is_beside : goal.returns-then-not-is_beside
returns-then-not-is_beside c = sym (c.loop-i.invariant ∙ apart_hit _ _ _ _ _ c.loop-i-test.true c.is_beside.ensures (not-true _ (ap not c.if-not-is_beside.true)))

pub loop-i-preserved : goal.loop-i-preserved
loop-i-preserved c = c.loop-i.invariant ∙ apart_skip _ _ _ _ _ c.loop-i-test.true c.is_beside.ensures (not-false _ (ap not c.if-not-is_beside.false))

pub returns : goal.returns
returns c = sym (c.loop-i.invariant ∙ apart_none _ _ _ _ _ c.loop-i-test.false)
