-- `signed_text::magnitude` meets its contract: each arm's cast and result follow from its test. Assumes nothing.
use native.Mathlib.Omega.{arith}
use Rattle.number.proofs.Signs.{cast_below, cast_above}
use Rattle.signed_text.proofs.Signed.{below_abs, above_abs}
use Rattle.signed_text.proofs.magnitude.Goals as goal

pub overflow_cast-result : goal.overflow_cast-result
overflow_cast-result c = (cast_below c.args.z c.ranges.z c.if-z-lt0.true).0

pub overflow_add-result : goal.overflow_add-result
overflow_add-result c = record { fits = omega (arith, (below_abs c.args.z c.ranges.z (cast_below c.args.z c.ranges.z c.if-z-lt0.true).1).1) }

pub returns-then-z-lt0 : goal.returns-then-z-lt0
returns-then-z-lt0 c = below_abs c.args.z c.ranges.z (cast_below c.args.z c.ranges.z c.if-z-lt0.true).1

pub overflow_cast-result-2 : goal.overflow_cast-result-2
overflow_cast-result-2 c = (cast_above c.args.z c.ranges.z c.if-z-lt0.false).0

pub returns : goal.returns
returns c = above_abs c.args.z c.ranges.z (cast_above c.args.z c.ranges.z c.if-z-lt0.false).1
