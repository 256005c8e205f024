-- `real_leaf::real_by` meets its contract. Assumes nothing.
use native.Mathlib.Omega.{arith}
use Rattle.bits.proofs.Eight.{bytes_of}
use Rattle.plans.proofs.RealWords.{window_fits, bits_fit, fast_is}
use Rattle.real_leaf.proofs.real_by.Goals as goal

pub raw_by-raw-requires : goal.raw_by-raw-requires
raw_by-raw-requires c = window_fits _ _ _ _ _ c.requires.0.3 c.at-code.ensures _ _ c.requires.1 c.at-order.ensures c.shift_in.ensures.0 c.precision_in-precision.ensures.0

pub fast_bits-requires : goal.fast_bits-requires
fast_bits-requires c = bits_fit _ _ _ _ _ c.requires.0.3 c.at-code.ensures c.precision_in-precision.ensures.0 c.bits_in.ensures.0 c.raw_by-raw.ensures.1

pub returns : goal.returns
returns c =
    let hb = bytes_of c.args.src.now (λ i. omega (arith, c.type_inv.src i)) in
    λ l m real e. fast_is l m real c.args.words.now c.args.place e c.at-code.ensures c.args.src.now c.args.source_byte c.requires.1 hb
    c.at-order.ensures c.shift_in.ensures.0 c.precision_in-precision.ensures.0 c.raw_by-raw.ensures.0 c.at.ensures c.flag_of.ensures c.at-2.ensures c.flag_of-2.ensures c.bits_in.ensures.0
    c.fast_bits.ensures
