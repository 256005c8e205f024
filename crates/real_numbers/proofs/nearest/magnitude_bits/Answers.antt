-- `real_numbers::nearest::magnitude_bits` meets its contract: the halves are exact as floats, and the sum rounds once (`Machine`). Assumes nothing.
use Rattle.reals.proofs.Nearly.{any_landed, landed_lt}
use Rattle.real_numbers.proofs.Machine.{sum_number, sum_bits}
use Rattle.real_numbers.proofs.nearest.magnitude_bits.Goals as goal

pub float_to_bits-result : goal.float_to_bits-result
float_to_bits-result c = sum_number c.args.n c.ranges.n.fits

pub returns : goal.returns
returns c =
    let n = c.args.n in
    let l = c.ranges.n.fits in
    (sum_bits n l, rw (sum_bits n l) (landed_lt (any_landed n l).landed))
