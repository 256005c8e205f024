-- `block_compare::put_one` meets its contract. Assumes nothing.
use native.Mathlib.Omega.{arith}
use Rattle.comparing.proofs.Between.{in_first_lem, in_second_lem, entries_formed}
use Rattle.block_compare.proofs.Blocks.{one_row, none_written, one_room, one_written}
use Rattle.block_compare.proofs.put_one.Goals as goal

pub block_alike-requires : goal.block_alike-requires
block_alike-requires c = ((_, (_, c.requires.0)), omega arith, omega (arith, c.requires.1), one_row _ _ _ c.requires.2)

pub returns-then-block_alike : goal.returns-then-block_alike
returns-then-block_alike c =
    let a = c.args in
    λ g. none_written a.first.now a.second.now g _ _ (c.block_alike.ensures _ _ g c.if-block_alike.true) _ _

pub overflow_mul-k : goal.overflow_mul-k
overflow_mul-k c =
    let a = c.args in
    omega (arith, c.well_formed.1.1.1.1.1.0, in_first_lem a.first.now a.second.now c.requires.0 _ c.requires.1)

pub slice_bounds-put_record-count : goal.slice_bounds-put_record-count
slice_bounds-put_record-count c =
    let a = c.args in
    omega (arith, c.well_formed.1.1.1.1.1.0, in_first_lem a.first.now a.second.now c.requires.0 _ c.requires.1)

pub slice_bounds-put_record-start : goal.slice_bounds-put_record-start
slice_bounds-put_record-start c =
    let a = c.args in
    omega (arith, c.well_formed.1.1.1.1.1.0, in_first_lem a.first.now a.second.now c.requires.0 _ c.requires.1)

pub overflow_mul-k-2 : goal.overflow_mul-k-2
overflow_mul-k-2 c =
    let a = c.args in
    omega (arith, c.well_formed.1.1.1.1.1.1.0, in_second_lem a.first.now a.second.now c.requires.0 _ c.requires.1)

pub slice_bounds-put_record-count-2 : goal.slice_bounds-put_record-count-2
slice_bounds-put_record-count-2 c =
    let a = c.args in
    omega (arith, c.well_formed.1.1.1.1.1.1.0, in_second_lem a.first.now a.second.now c.requires.0 _ c.requires.1)

pub slice_bounds-put_record-start-2 : goal.slice_bounds-put_record-start-2
slice_bounds-put_record-start-2 c =
    let a = c.args in
    omega (arith, c.well_formed.1.1.1.1.1.1.0, in_second_lem a.first.now a.second.now c.requires.0 _ c.requires.1)

pub put_record-requires : goal.put_record-requires
put_record-requires c =
    let a = c.args in
    (entries_formed a.first.now a.second.now c.requires.0 _ c.requires.1, one_room a.first.now a.second.now c.requires.0 _ c.requires.1 _ _ (c.requires.3 c.requires.0))

pub returns : goal.returns
returns c =
    let a = c.args in
    λ g. one_written a.first.now a.second.now g a.k c.requires.1 a.list.now a.at _ _ c.put_record.ensures
