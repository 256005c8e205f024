-- `block_compare::one_len` meets its contract. Assumes nothing.
use native.Mathlib.Omega.{arith}
use Rattle.comparing.proofs.Between.{in_first_lem, in_second_lem, entries_formed}
use Rattle.block_compare.proofs.Blocks.{one_row, none_counted, one_counted}
use Rattle.block_compare.proofs.one_len.Goals as goal

pub block_alike-requires : goal.block_alike-requires
block_alike-requires c = ((_, (_, c.requires.0)), omega arith, omega (arith, c.requires.1), one_row _ _ _ c.requires.2)

pub returns-then-block_alike : goal.returns-then-block_alike
returns-then-block_alike c =
    let a = c.args in
    (λ g. none_counted a.first.now a.second.now g _ _ (c.block_alike.ensures _ _ g c.if-block_alike.true), omega arith)

pub overflow_mul-i : goal.overflow_mul-i
overflow_mul-i c =
    let a = c.args in
    omega (arith, c.well_formed.1.1.1.0, in_first_lem a.first.now a.second.now c.requires.0 _ c.requires.1)

pub slice_bounds-record_len-count : goal.slice_bounds-record_len-count
slice_bounds-record_len-count c =
    let a = c.args in
    omega (arith, c.well_formed.1.1.1.0, in_first_lem a.first.now a.second.now c.requires.0 _ c.requires.1)

pub slice_bounds-record_len-start : goal.slice_bounds-record_len-start
slice_bounds-record_len-start c =
    let a = c.args in
    omega (arith, c.well_formed.1.1.1.0, in_first_lem a.first.now a.second.now c.requires.0 _ c.requires.1)

pub overflow_mul-i-2 : goal.overflow_mul-i-2
overflow_mul-i-2 c =
    let a = c.args in
    omega (arith, c.well_formed.1.1.1.1.0, in_second_lem a.first.now a.second.now c.requires.0 _ c.requires.1)

pub slice_bounds-record_len-count-2 : goal.slice_bounds-record_len-count-2
slice_bounds-record_len-count-2 c =
    let a = c.args in
    omega (arith, c.well_formed.1.1.1.1.0, in_second_lem a.first.now a.second.now c.requires.0 _ c.requires.1)

pub slice_bounds-record_len-start-2 : goal.slice_bounds-record_len-start-2
slice_bounds-record_len-start-2 c =
    let a = c.args in
    omega (arith, c.well_formed.1.1.1.1.0, in_second_lem a.first.now a.second.now c.requires.0 _ c.requires.1)

pub record_len-requires : goal.record_len-requires
record_len-requires c =
    let a = c.args in
    entries_formed a.first.now a.second.now c.requires.0 _ c.requires.1

pub returns : goal.returns
returns c =
    let a = c.args in
    (λ g. one_counted a.first.now a.second.now g _ c.requires.1 _ c.record_len.ensures.0, c.record_len.ensures.1)
