-- `real_columns::near::signed_in` meets its contract. Assumes nothing.
use Rattle.std.proofs.Common.{arith}
use Rattle.real_columns.proofs.NearInts.{signed_negated}
use Rattle.real_columns.proofs.near.signed_in.Goals as goal

pub returns-then-negative : goal.returns-then-negative
returns-then-negative c =
    let a = c.args in
    signed_negated a.negative a.into a.c (omega arith) c.if-negative.true c.wrapping_add_u64.ensures.value
