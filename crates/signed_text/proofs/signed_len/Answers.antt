-- `signed_text::signed_len` meets its contract. Assumes nothing.
use native.Mathlib.Omega.{arith}
use Rattle.signed_text.proofs.Signed.{negative_length, other_length}
use Rattle.signed_text.proofs.signed_len.Goals as goal

pub overflow_add-result : goal.overflow_add-result
overflow_add-result c = record { fits = omega (arith, (negative_length c.args.z c.ranges.z c.magnitude.ensures c.if-z-lt0.true c.decimal_len-digits.ensures).1) }

pub returns-then-z-lt0 : goal.returns-then-z-lt0
returns-then-z-lt0 c = negative_length c.args.z c.ranges.z c.magnitude.ensures c.if-z-lt0.true c.decimal_len-digits.ensures

pub returns : goal.returns
returns c = other_length c.args.z c.ranges.z c.magnitude.ensures c.if-z-lt0.false c.decimal_len-digits.ensures
