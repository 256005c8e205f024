-- `paths::leaf::leaf_at` meets its contract. The invariant: the leaf is that at byte `at` of type k, to the depth that is left. Assumes nothing.
use Prim.Native.Nat.{◌+◌, ◌-◌}
use mathlib.Core.Path.{◌≡◌, sym, ◌∙◌}
use native.Mathlib.Omega.{arith}
use Rattle.paths.proofs.LeafSteps.{leaf_turn, leaf_out}
use Rattle.paths.proofs.leaf.leaf_at.Goals as goal

pub returns-in-Here : goal.returns-in-Here
returns-in-Here c = λ t. sym (c.loop.invariant t ∙ leaf_turn _ _ t _ _ _ _ (omega arith) c.leaf_step.ensures c.in-Here.is)

pub returns-in-Gone : goal.returns-in-Gone
returns-in-Gone c = λ t. sym (c.loop.invariant t ∙ leaf_turn _ _ t _ _ _ _ (omega arith) c.leaf_step.ensures c.in-Gone.is)

pub loop-preserved : goal.loop-preserved
loop-preserved c =
    λ t.
    let less : 64 - c.loop.counter - 1 ≡ 64 - (c.loop.counter + 1) = omega arith in
    rw (← less) (c.loop.invariant t ∙ leaf_turn _ _ t _ _ _ _ (omega arith) c.leaf_step.ensures c.in-Go.is)

pub returns : goal.returns
returns c = λ t. sym (c.loop.invariant t ∙ leaf_out _ _ t _ _ (omega arith))
