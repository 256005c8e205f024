-- `enum_leaf::convert_enum` meets its contract. Assumes nothing.
use mathlib.Core.Path.{ap}
use Rattle.layout.specs.declared.Layout.{Layout}
use Rattle.plans.proofs.LeafSteps.{store_fits, leaf_stored}
use Rattle.enum_leaf.proofs.convert_enum.Goals as goal

pub enum_bits-bits-requires : goal.enum_bits-bits-requires
enum_bits-bits-requires c = (c.requires.0, ap (λ (l : Layout). l.precision) c.layout_at-m.ensures.0)

pub store-requires : goal.store-requires
store-requires c = store_fits _ _ _ _ _ _ _ _ _ c.requires.0.pair c.requires.1 c.layout_at-m.ensures.0 c.enum_bits-bits.ensures.1

pub returns : goal.returns
returns c =
    let x = c.args in
    leaf_stored x.src.now x.dst.now _ x.source_byte x.destination_byte _ _ _ _ _ _ c.enum_bits-bits.ensures c.layout_at-m.ensures.0 c.store.ensures
