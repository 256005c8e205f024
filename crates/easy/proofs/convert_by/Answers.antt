-- `easy::convert_by` meets its contract. Assumes nothing.
use mathlib.Core.Path.{◌∙◌}
use Prim.Native.Nat.{◌+◌, ◌*◌, ◌/◌, ◌-◌, ◌^◌, ◌<◌}
use native.Mathlib.Omega.{arith}
use Rattle.bits.proofs.Eight.{bytes_of}
use Rattle.easy.proofs.Easy.{numbers_fit, wide_fits, leaf_is}
use Rattle.easy.proofs.convert_by.Lts as lts
use Rattle.easy.proofs.convert_by.Reads as reads
use Rattle.easy.proofs.convert_by.Tie as tie
use Rattle.easy.proofs.convert_by.Goals as goal

wide : (c : lts.After-raw_by tie.the-claims reads.Pre reads.Post) → (let a = c.args in c.raw_by-raw.result + a.carry * (c.raw_by-raw.result / 2 ^ (a.precision - 1)) < 18446744073709551616)
wide c =
    wide_fits _ _ c.requires.0.2 c.args.src.now c.args.source_byte c.requires.1 (bytes_of c.args.src.now (λ i. omega (arith, c.shared_slice_known-1.given i))) c.raw_by-raw.ensures.0 c.raw_by-raw.ensures.1

pub raw_by-raw-requires : goal.raw_by-raw-requires
raw_by-raw-requires c =
    let f = numbers_fit _ _ c.requires.0.2 in
    (c.requires.1, f.0, f.1, f.3)

pub overflow_mul-wide : goal.overflow_mul-wide
overflow_mul-wide c = omega (arith, wide c.before)

pub overflow_add-wide : goal.overflow_add-wide
overflow_add-wide c = record { fits = wide c.before }

pub returns : goal.returns
returns c =
    λ l m e fits.
    leaf_is l m e c.args.src.now c.args.source_byte c.requires.1 (bytes_of c.args.src.now (λ i. omega (arith, c.type_inv.src i)))
    c.raw_by-raw.ensures.0 c.raw_by-raw.ensures.1 c.args.destination_byte c.args.dst.now fits (bytes_of c.args.dst.now (λ i. omega (arith, c.slice_known-1.given i)))
    (c.store.ensures ∙ rw c.order_of.ensures)
