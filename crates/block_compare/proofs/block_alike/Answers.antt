-- `block_compare::block_alike` meets its contract. Assumes nothing.
use mathlib.Core.Path.{refl}
use native.Mathlib.Omega.{arith}
use Rattle.comparing.proofs.Between.{alike_none}
use Rattle.block_compare.proofs.Blocks.{alike_ready, block_first, block_second}
use Rattle.block_compare.proofs.block_alike.Goals as goal

pub overflow_mul-from : goal.overflow_mul-from
overflow_mul-from c =
    let a = c.args in
    omega (arith, c.well_formed.1.1.1.1.0, block_first a.first.now a.second.now c.requires.0.1.1 _ _ c.requires.1 c.requires.2)

pub slice_bounds-records_alike-count : goal.slice_bounds-records_alike-count
slice_bounds-records_alike-count c =
    let a = c.args in
    omega (arith, c.well_formed.1.1.1.1.0, block_first a.first.now a.second.now c.requires.0.1.1 _ _ c.requires.1 c.requires.2)

pub slice_bounds-records_alike-start : goal.slice_bounds-records_alike-start
slice_bounds-records_alike-start c =
    let a = c.args in
    omega (arith, c.well_formed.1.1.1.1.0, block_first a.first.now a.second.now c.requires.0.1.1 _ _ c.requires.1 c.requires.2)

pub overflow_mul-from-2 : goal.overflow_mul-from-2
overflow_mul-from-2 c =
    let a = c.args in
    omega (arith, c.well_formed.1.1.1.1.1.0, block_second a.first.now a.second.now c.requires.0.1.1 _ _ c.requires.1 c.requires.2)

pub slice_bounds-records_alike-count-2 : goal.slice_bounds-records_alike-count-2
slice_bounds-records_alike-count-2 c =
    let a = c.args in
    omega (arith, c.well_formed.1.1.1.1.1.0, block_second a.first.now a.second.now c.requires.0.1.1 _ _ c.requires.1 c.requires.2)

pub slice_bounds-records_alike-start-2 : goal.slice_bounds-records_alike-start-2
slice_bounds-records_alike-start-2 c =
    let a = c.args in
    omega (arith, c.well_formed.1.1.1.1.1.0, block_second a.first.now a.second.now c.requires.0.1.1 _ _ c.requires.1 c.requires.2)

pub records_alike-requires : goal.records_alike-requires
records_alike-requires c =
    let a = c.args in
    alike_ready a.first.now a.second.now c.requires.0.1.1 _ _ _ c.requires.1 c.requires.2 c.requires.3

pub returns : goal.returns
returns c =
    let a = c.args in
    λ ss ds g. alike_none a.first.now a.second.now g _ _ _ _ refl c.records_alike.ensures.1
