-- `leaf_compare::same_parts` meets its contract. Assumes nothing.
use mathlib.Core.Bool.{true, false}
use Rattle.leaf_compare.proofs.Ways.{signs_alike, first_below, second_below}
use Rattle.leaf_compare.proofs.same_parts.Goals as goal

pub returns-then-other_negative : goal.returns-then-other_negative
returns-then-other_negative c =
    let a = c.args in
    signs_alike a.negative a.distance a.other_negative a.other true c.if-negative.true c.if-other_negative.true

pub returns-then-negative : goal.returns-then-negative
returns-then-negative c =
    let a = c.args in
    first_below a.negative a.distance a.other_negative a.other c.if-negative.true c.if-other_negative.false

pub returns-then-other_negative-2 : goal.returns-then-other_negative-2
returns-then-other_negative-2 c =
    let a = c.args in
    second_below a.negative a.distance a.other_negative a.other c.if-negative.false c.if-other_negative-2.true

pub returns : goal.returns
returns c =
    let a = c.args in
    signs_alike a.negative a.distance a.other_negative a.other false c.if-negative.false c.if-other_negative-2.false
