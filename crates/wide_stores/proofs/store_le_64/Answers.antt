-- `wide_stores::store_le_64` meets its contract. Assumes nothing.
use mathlib.Core.Path.{◌≡◌}
use native.Mathlib.Omega.{arith}
use borrow.Author.Rules.{rules}
use Rattle.wide_stores.proofs.store_le_64.Goals as goal

pub store_le_dense_64-requires : goal.store_le_dense_64-requires
store_le_dense_64-requires c =
    let e : c.args.record_size ≡ c.args.size = search rules in
    (c.requires.0, c.requires.1, rw e at c.requires.3)

pub returns-then-record_size-size : goal.returns-then-record_size-size
returns-then-record_size-size c =
    let a = c.args in
    let e : a.record_size ≡ a.size = search rules in
    let z : a.byte ≡ 0 = omega arith in
    rw (e, z) c.store_le_dense_64.ensures
