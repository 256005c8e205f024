-- `leaf_compare::real_bits` meets its contract. Assumes nothing.
use Rattle.leaf_compare.proofs.Ways.{bits_below, bits_above}
use Rattle.leaf_compare.proofs.real_bits.Goals as goal

pub returns-then-p : goal.returns-then-p
returns-then-p c =
    let p = c.split-p in
    bits_below c.args.z p.result.negative p.result.distance p.ensures c.if-p.true

pub returns : goal.returns
returns c =
    let p = c.split-p in
    bits_above c.args.z p.result.negative p.result.distance p.ensures c.if-p.false
