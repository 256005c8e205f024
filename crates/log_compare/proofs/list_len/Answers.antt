-- `log_compare::list_len` meets its contract. The loop's invariant: the header and the lines of the records before i have len bytes. Assumes nothing.
use mathlib.Core.Path.{refl, ◌∙◌}
use Prim.Native.Nat.{◌-◌}
use native.Mathlib.Omega.{arith}
use lib.ListN.{length}
use Rattle.log_compare.proofs.Lists.{second_some, second_most, start_listed, listed_on, list_counted}
use Rattle.log_compare.proofs.list_len.Goals as goal

pub loop-i-init : goal.loop-i-init
loop-i-init c =
    let a = c.args in
    (omega arith, refl, omega arith, λ g. start_listed a.first.now a.second.now g)

pub block_end-to-requires : goal.block_end-to-requires
block_end-to-requires c =
    let a = c.args in
    (c.loop-i-test.true, second_some a.first.now a.second.now c.requires, second_most a.first.now a.second.now c.requires)

pub block_len-len-requires : goal.block_len-len-requires
block_len-len-requires c =
    let a = c.args in
    let l = c.loop-i in
    let b = c.block_end-to.ensures in
    (c.requires, omega (arith, b.0), b.1, omega (arith, b.2, l.invariant.1), omega (arith, second_most a.first.now a.second.now c.requires, l.invariant.1))

pub overflow_add-len : goal.overflow_add-len
overflow_add-len c =
    let l = c.loop-i in
    let b = c.block_end-to.ensures in
    omega (arith, c.block_len-len.ensures.1, c.requires.few, b.0, b.1, l.invariant.2)

pub loop-i-smaller : goal.loop-i-smaller
loop-i-smaller c =
    let b = c.block_end-to.ensures in
    omega (arith, b.0, b.1)

pub loop-i-preserved : goal.loop-i-preserved
loop-i-preserved c =
    let a = c.args in
    let l = c.loop-i in
    let b = c.block_end-to.ensures in
    let o = c.block_len-len in
    (b.1, ◌∙◌ {b = length l.staging} o.auto.staging l.invariant.1, omega (arith, o.ensures.1, b.0, l.invariant.2), λ g. listed_on a.first.now a.second.now g _ _ _ _ (omega (arith, b.0)) (l.invariant.3 g) (o.ensures.0 g))

pub returns : goal.returns
returns c =
    let a = c.args in
    let l = c.loop-i in
    λ g. list_counted a.first.now a.second.now g _ _ l.invariant.0 c.loop-i-test.false (l.invariant.3 g)
