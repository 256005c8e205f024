-- `real_numbers::cut::without_fraction` meets its contract. Each return takes its case (`Cutting`). Assumes nothing.
use native.Mathlib.Omega.{arith}
use Rattle.real_numbers.proofs.Cutting.{infinite_cut, nan_cut, small_cut, over_cut, right_cut, left_cut}
use Rattle.real_numbers.proofs.cut.without_fraction.Goals as goal
use Rattle.real_numbers.proofs.cut.without_fraction.Goals.{else-exponent-eq-TOP_EXPONENT-via-then-exponent-eq-TOP_EXPONENT+else-fraction-ne0, else-exponent-eq-TOP_EXPONENT-via-else-exponent-eq-TOP_EXPONENT}

pub returns-then-fraction-ne0 : goal.returns-then-fraction-ne0
returns-then-fraction-ne0 c = nan_cut _ c.if-exponent-eq-TOP_EXPONENT.true c.if-fraction-ne0.true

pub returns-then-exponent-gt-EXPONENT_OF_2_TO_63 : goal.returns-then-exponent-gt-EXPONENT_OF_2_TO_63
returns-then-exponent-gt-EXPONENT_OF_2_TO_63 c =
    elim c.else-exponent-eq-TOP_EXPONENT.branch [
      | else-exponent-eq-TOP_EXPONENT-via-then-exponent-eq-TOP_EXPONENT+else-fraction-ne0 w ↦
          infinite_cut _ w.if-exponent-eq-TOP_EXPONENT.true w.if-fraction-ne0.false
      | else-exponent-eq-TOP_EXPONENT-via-else-exponent-eq-TOP_EXPONENT w ↦
          over_cut _ w.if-exponent-eq-TOP_EXPONENT.false c.if-exponent-gt-EXPONENT_OF_2_TO_63.true
    ]

pub returns-then-exponent-lt-EXPONENT_OF_1 : goal.returns-then-exponent-lt-EXPONENT_OF_1
returns-then-exponent-lt-EXPONENT_OF_1 c = small_cut _ c.if-exponent-lt-EXPONENT_OF_1.true

pub returns-then-exponent-le-EXPONENT_OF_2_TO_52 : goal.returns-then-exponent-le-EXPONENT_OF_2_TO_52
returns-then-exponent-le-EXPONENT_OF_2_TO_52 c = rw c.pow2.ensures (right_cut _ (omega arith) (omega arith))

pub returns-else-exponent-le-EXPONENT_OF_2_TO_52 : goal.returns-else-exponent-le-EXPONENT_OF_2_TO_52
returns-else-exponent-le-EXPONENT_OF_2_TO_52 c = left_cut _ (omega arith) (omega arith)
