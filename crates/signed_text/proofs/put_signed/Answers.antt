-- `signed_text::put_signed` meets its contract. Assumes nothing.
use mathlib.Core.Path.{ap}
use native.Mathlib.Omega.{arith}
use lib.ListN.{length}
use Rattle.signed_text.proofs.Signed.{negative_is, negative_wrote, other_is, other_wrote}
use Rattle.signed_text.proofs.put_signed.Goals as goal

pub put_bytes-next-requires : goal.put_bytes-next-requires
put_bytes-next-requires c = omega (arith, ap length (negative_is c.args.z c.ranges.z c.magnitude-n.ensures c.if-z-lt0.true))

pub put_decimal-requires : goal.put_decimal-requires
put_decimal-requires c = omega (arith, ap length (negative_is c.args.z c.ranges.z c.magnitude-n.ensures c.if-z-lt0.true))

pub returns-then-z-lt0 : goal.returns-then-z-lt0
returns-then-z-lt0 c =
    negative_wrote c.args.z c.ranges.z c.magnitude-n.ensures c.if-z-lt0.true c.args.at c.requires c.put_bytes-next.ensures
    c.put_decimal.ensures

pub put_decimal-requires-2 : goal.put_decimal-requires-2
put_decimal-requires-2 c = omega (arith, ap length (other_is c.args.z c.ranges.z c.magnitude-n.ensures c.if-z-lt0.false))

pub returns : goal.returns
returns c = other_wrote c.args.z c.ranges.z c.magnitude-n.ensures c.if-z-lt0.false c.args.at c.requires c.put_decimal-2.ensures
