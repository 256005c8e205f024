-- `real_equals::same_signed` meets its contract. Assumes nothing.
use Rattle.real_equals.proofs.Compared.{other_magnitude, both_zero, negative_same, positive_same}
use Rattle.real_equals.proofs.same_signed.Goals as goal

pub returns-then-n-other : goal.returns-then-n-other
returns-then-n-other c =
    let a = c.args in
    other_magnitude a.negative a.n a.other_negative a.other c.if-n-other.true

pub returns-then-n-eq0 : goal.returns-then-n-eq0
returns-then-n-eq0 c =
    let a = c.args in
    both_zero a.negative a.n a.other_negative a.other c.if-n-other.false c.if-n-eq0.true

pub returns-then-negative : goal.returns-then-negative
returns-then-negative c =
    let a = c.args in
    negative_same a.negative a.n a.other_negative a.other c.if-n-other.false c.if-n-eq0.false c.if-negative.true

pub returns : goal.returns
returns c =
    let a = c.args in
    positive_same a.negative a.n a.other_negative a.other c.if-n-other.false c.if-n-eq0.false c.if-negative.false
