-- `obeying::handling_at` meets its contract. The invariant: the leaf obeys what the leaf at byte `at` of type k obeys, to the depth that is left. Assumes nothing.
use Prim.Native.Nat.{◌+◌, ◌-◌}
use mathlib.Core.Path.{◌≡◌, sym, ◌∙◌}
use native.Mathlib.Omega.{arith}
use Rattle.obeying.proofs.WordSteps.{goes, ends, out, starts}
use Rattle.obeying.proofs.handling_at.Goals as goal

pub loop-init : goal.loop-init
loop-init c = λ t. starts _ t _ _ _

pub returns-in_default : goal.returns-in_default
returns-in_default c = λ t. sym (c.loop.invariant t ∙ ends _ _ t _ _ _ _ (omega arith) c.word_step.ensures c.in_default.is)

pub loop-preserved : goal.loop-preserved
loop-preserved c =
    λ t.
    let less : 64 - c.loop.counter - 1 ≡ 64 - (c.loop.counter + 1) = omega arith in
    rw (← less) (c.loop.invariant t ∙ goes _ _ t _ _ _ _ (omega arith) c.word_step.ensures c.in-Some.is c.ask-obeyed.ensures)

pub returns : goal.returns
returns c = λ t. sym (c.loop.invariant t ∙ out _ _ t _ _ _ (omega arith))
