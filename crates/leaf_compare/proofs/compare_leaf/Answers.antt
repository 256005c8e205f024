-- `leaf_compare::compare_leaf` meets its contract. Assumes nothing.
use lib.ListN.{length}
use Rattle.leaf_compare.proofs.Ways.{leaf_inside, says_same, says_differ}
use Rattle.leaf_compare.proofs.compare_leaf.Goals as goal

pub number_at-z-requires : goal.number_at-z-requires
number_at-z-requires c =
    let a = c.args in
    leaf_inside a.first_half.now a.first_sheet.now a.e.source a.e.from (length a.first.now) c.requires.source c.requires.read

pub number_at-w-requires : goal.number_at-w-requires
number_at-w-requires c =
    let a = c.args in
    leaf_inside a.second_half.now a.second_sheet.now a.e.destination a.e.to (length a.second.now) c.requires.destination c.requires.write

pub returns-then-same_leaf : goal.returns-then-same_leaf
returns-then-same_leaf c =
    let a = c.args in
    says_same a.e a.first_sheet.now a.first_half.now a.second_sheet.now a.second_half.now a.first.now a.second.now c.number_at-z.result c.number_at-w.result c.number_at-z.ensures c.number_at-w.ensures c.same_leaf.ensures c.if-same_leaf.true

pub returns : goal.returns
returns c =
    let a = c.args in
    says_differ a.e a.first_sheet.now a.first_half.now a.second_sheet.now a.second_half.now a.first.now a.second.now c.number_at-z.result c.number_at-w.result c.number_at-z.ensures c.number_at-w.ensures c.same_leaf.ensures c.if-same_leaf.false
