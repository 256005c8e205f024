-- `enum_leaf::convert_enum_fast` meets its contract. Assumes nothing.
use native.Mathlib.Omega.{arith}
use Rattle.bits.proofs.Eight.{bytes_of}
use Rattle.plans.proofs.EnumWords.{route_fits, window_fits, bits_fit, size_fits, fast_done}
use Rattle.enum_leaf.proofs.convert_enum_fast.Goals as goal

pub overflow_sub-order : goal.overflow_sub-order
overflow_sub-order c =
    let low = route_fits _ _ _ _ _ _ _ _ _ _ c.requires.3 c.at-code.ensures c.route_in.ensures.0 in
    omega (arith, low)

pub raw_by-raw-requires : goal.raw_by-raw-requires
raw_by-raw-requires c = window_fits _ _ _ _ _ _ _ _ _ _ c.requires.3 c.at-code.ensures c.route_in.ensures.0 c.shift_in.ensures.0 c.precision_in.ensures.0

pub span_code-requires : goal.span_code-requires
span_code-requires c = c.requires.3.room

pub code_bits-f-requires : goal.code_bits-f-requires
code_bits-f-requires c = bits_fit _ _ _ _ _ _ _ _ _ _ c.requires.3 c.at-code.ensures c.bits_in.ensures.0

pub store-requires : goal.store-requires
store-requires c = size_fits _ _ _ _ _ _ _ _ _ _ c.requires.3 c.at-code.ensures c.size_in.ensures.0

pub returns : goal.returns
returns c =
    let hb = bytes_of c.args.src.now (λ i. omega (arith, c.type_inv.src i)) in
    let hd = bytes_of c.args.dst.now (λ i. omega (arith, c.slice_known-1.given i)) in
    λ s d ws h. fast_done c.args.src.now c.args.dst.now c.args.destination_byte c.args.source_byte s d ws c.args.destination_half.now c.args.words.now c.args.place h c.at-code.ensures hb
    c.route_in.ensures.0 c.shift_in.ensures.0 c.precision_in.ensures.0 c.raw_by-raw.ensures.0 c.raw_by-raw.ensures.1
    c.span_code.ensures.0 c.bits_in.ensures.0 c.code_bits-f.ensures hd c.size_in.ensures.0 c.order_in.ensures.0 c.order_of.ensures c.store.ensures
