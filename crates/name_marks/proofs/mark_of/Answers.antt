-- `name_marks::mark_of` meets its contract. The invariant: the bytes that are left make the name's mark of the one so far. Assumes nothing.
use Prim.Native.Nat.{ℕ, ◌+◌, ◌-◌}
use mathlib.Core.Path.{◌≡◌, sym, ◌∙◌}
use native.Mathlib.Omega.{arith}
use Rattle.name_marks.proofs.Marks.{mark_none, mark_more, below}
use Rattle.name_marks.proofs.mark_of.Goals as goal

pub loop-at-preserved : goal.loop-at-preserved
loop-at-preserved c =
    let end : ℕ = c.args.start + c.args.len in
    let less : end - c.loop-at.at - 1 ≡ end - (c.loop-at.at + 1) = omega arith in
    (rw (← less) (c.loop-at.invariant.0 ∙ mark_more _ _ _ _ (omega arith) c.byte.ensures.0), below _)

pub returns : goal.returns
returns c = (sym (c.loop-at.invariant.0 ∙ mark_none _ _ _ _ (omega arith)), c.loop-at.invariant.1)
