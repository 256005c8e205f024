-- `real_columns::near::near` meets its contract. Assumes nothing.
use Rattle.reals.specs.Worth.{negative}
use Rattle.std.proofs.Common.{pow_pos}
use Rattle.real_columns.proofs.NearInts.{limit_within, near_made}
use Rattle.real_columns.proofs.near.near.Goals as goal

pub nonzero_rem-part : goal.nonzero_rem-part
nonzero_rem-part c = rw c.pow2.ensures (pow_pos _)

pub signed_in-raw-requires : goal.signed_in-raw-requires
signed_in-raw-requires c = limit_within (negative c.args.b) c.args.most c.args.least c.args.into c.requires.1 c.requires.2 c.limit_of-limit.ensures c.lesser.ensures.1

pub returns : goal.returns
returns c =
    let a = c.args in
    let made = near_made a.b a.most a.least a.into c.below_of-below.ensures.0 c.significand_of-significand.ensures c.pow2.ensures c.limit_of-limit.ensures c.raised_near-raised.ensures.0 c.lesser.ensures.0 c.signed_in-raw.ensures.0 in
    (made.0, made.1, c.signed_in-raw.ensures.1, c.raised_near-raised.ensures.1)
