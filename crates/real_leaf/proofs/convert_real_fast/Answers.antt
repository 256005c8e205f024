-- `real_leaf::convert_real_fast` meets its contract. Assumes nothing.
use mathlib.Core.Path.{ap, ◌∙◌}
use native.Mathlib.Omega.{arith}
use Rattle.bits.proofs.Eight.{bytes_of}
use Rattle.number.specs.declared.Fitted.{Fitted}
use Rattle.plans.proofs.RealWords.{size_fits, fast_stored}
use Rattle.real_leaf.proofs.convert_real_fast.Goals as goal

pub real_by-f-requires : goal.real_by-f-requires
real_by-f-requires c = ((_, _, _, c.requires.0.3), c.requires.1, c.requires.2)

pub store-requires : goal.store-requires
store-requires c = size_fits _ _ _ _ _ c.requires.0.3 c.at-code.ensures _ _ c.requires.0.4 c.size_in.ensures.0

pub returns : goal.returns
returns c =
    let hd = bytes_of c.args.dst.now (λ i. omega (arith, c.slice_known-1.given i)) in
    λ l m real h fits.
    let is = c.real_by-f.ensures l m real h in (
      ap (λ (g : Fitted). g.kind) is,
      fast_stored l m real c.args.words.now c.args.place h c.at-code.ensures c.args.dst.now _ c.args.destination_byte _ fits hd
          c.size_in.ensures.0 c.order_in.ensures.0 c.order_of.ensures c.store.ensures ∙ rw is,
    )
