-- `wide_stores::store_le_dense_64` meets its contract. Assumes nothing.
use mathlib.Core.Path.{◌≡◌}
use borrow.Author.Rules.{rules}
use Rattle.wide_stores.proofs.store_le_dense_64.Goals as goal

pub store_le1_dense_64-requires : goal.store_le1_dense_64-requires
store_le1_dense_64-requires c =
    let e : c.args.size ≡ 1 = search rules in
    (c.requires.0, rw e at c.requires.2)

pub store_le2_dense_64-requires : goal.store_le2_dense_64-requires
store_le2_dense_64-requires c =
    let e : c.args.size ≡ 2 = search rules in
    (c.requires.0, rw e at c.requires.2)

pub store_le4_dense_64-requires : goal.store_le4_dense_64-requires
store_le4_dense_64-requires c =
    let e : c.args.size ≡ 4 = search rules in
    (c.requires.0, rw e at c.requires.2)

pub store_le8_dense_64-requires : goal.store_le8_dense_64-requires
store_le8_dense_64-requires c =
    let e : c.args.size ≡ 8 = search rules in
    (c.requires.0, rw e at c.requires.2)

pub returns-in-1 : goal.returns-in-1
returns-in-1 c =
    let e : c.args.size ≡ 1 = search rules in
    rw e c.store_le1_dense_64.ensures

pub returns-in-2 : goal.returns-in-2
returns-in-2 c =
    let e : c.args.size ≡ 2 = search rules in
    rw e c.store_le2_dense_64.ensures

pub returns-in-4 : goal.returns-in-4
returns-in-4 c =
    let e : c.args.size ≡ 4 = search rules in
    rw e c.store_le4_dense_64.ensures

pub returns-in-8 : goal.returns-in-8
returns-in-8 c =
    let e : c.args.size ≡ 8 = search rules in
    rw e c.store_le8_dense_64.ensures
