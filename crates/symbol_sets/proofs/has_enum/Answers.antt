-- `symbol_sets::has_enum` meets its contract. The invariant: the answer is that of the types that are left. Assumes nothing.
use mathlib.Core.Path.{refl, sym, ◌∙◌}
use native.Mathlib.Omega.{arith}
use Rattle.symbol_sets.proofs.Enums.{enum_none, enum_hit, enum_skip}
use Rattle.symbol_sets.proofs.has_enum.Goals as goal

pub returns-then-kind_at-eq-ENUM : goal.returns-then-kind_at-eq-ENUM
returns-then-kind_at-eq-ENUM c = sym (c.loop-k.invariant ∙ enum_hit _ _ c.loop-k-test.true c.kind_at.ensures c.if-kind_at-eq-ENUM.true)

pub loop-k-preserved : goal.loop-k-preserved
loop-k-preserved c = c.loop-k.invariant ∙ enum_skip _ _ c.loop-k-test.true c.kind_at.ensures c.if-kind_at-eq-ENUM.false

pub returns : goal.returns
returns c = sym (c.loop-k.invariant ∙ enum_none _ _ c.loop-k-test.false)
