-- `real_numbers::to_real` meets its contract. Assumes nothing.
use Rattle.real_numbers.proofs.Reals.{raw_lt, real_exact, real_inexact}
use Rattle.real_numbers.proofs.to_real.Goals as goal

pub returns-then-is_double : goal.returns-then-is_double
returns-then-is_double c =
    let p = c.split_in_range-p in
    let s = p.result.negative in
    let d = p.result.distance in
    rw p.ensures.0 (
      real_exact s d _ _ _ _ c.magnitude_of-n.ensures c.magnitude_bits.ensures.0 c.with_sign-raw.ensures c.is_double.ensures c.if-is_double.true,
      raw_lt s d _ _ _ _ c.magnitude_of-n.ensures c.magnitude_bits.ensures.0 c.with_sign-raw.ensures c.is_double.ensures,
    )

pub returns-else-is_double : goal.returns-else-is_double
returns-else-is_double c =
    let p = c.split_in_range-p in
    let s = p.result.negative in
    let d = p.result.distance in
    rw p.ensures.0 (
      real_inexact s d _ _ _ _ c.magnitude_of-n.ensures c.magnitude_bits.ensures.0 c.with_sign-raw.ensures c.is_double.ensures c.if-is_double.false,
      raw_lt s d _ _ _ _ c.magnitude_of-n.ensures c.magnitude_bits.ensures.0 c.with_sign-raw.ensures c.is_double.ensures,
    )
