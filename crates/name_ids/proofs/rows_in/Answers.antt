-- `name_ids::rows_in` meets its contract. The invariant: the rows of the first i types are covered. Assumes nothing.
use native.Mathlib.Omega.{arith}
use Rattle.name_ids.proofs.Ids.{covers_more, covers_all}
use Rattle.name_ids.proofs.rows_in.Goals as goal

pub loop-i-preserved : goal.loop-i-preserved
loop-i-preserved c =
    (omega arith, covers_more _ _ _ _ c.loop-i.invariant.1 c.type_word.ensures c.type_word-in-loop-i.ensures (omega arith, omega arith, λ j inside below. omega arith))

pub returns : goal.returns
returns c = (c.loop-i.invariant.0, covers_all _ _ _ c.loop-i-test.false c.loop-i.invariant.1)
