-- `real_equals::equals_parts` meets its contract. Assumes nothing.
use Rattle.real_equals.proofs.Compared.{nan_differs, beyond_differs, fraction_differs, whole_compares}
use Rattle.real_equals.proofs.equals_parts.Goals as goal

pub returns-then-fraction : goal.returns-then-fraction
returns-then-fraction c =
    let a = c.args in
    fraction_differs a.b a.negative a.distance c.without_fraction-c.ensures c.magnitude_of-other.ensures c.in-Whole.is c.if-fraction.true

pub returns-in-NotANumber : goal.returns-in-NotANumber
returns-in-NotANumber c =
    let a = c.args in
    nan_differs a.b a.negative a.distance c.without_fraction-c.ensures c.in-NotANumber.is

pub returns-in-Beyond : goal.returns-in-Beyond
returns-in-Beyond c =
    let a = c.args in
    beyond_differs a.b a.negative a.distance c.without_fraction-c.ensures c.magnitude_of-other.ensures c.in-Beyond.is

pub returns-else-fraction : goal.returns-else-fraction
returns-else-fraction c =
    let a = c.args in
    whole_compares a.b a.negative a.distance c.without_fraction-c.ensures c.magnitude_of-other.ensures c.in-Whole.is c.if-fraction.false c.same_signed.ensures
