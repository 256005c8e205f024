-- `block_compare::block_len` meets its contract. The loop's invariant: the lines of the records before i have len bytes. Assumes nothing.
use mathlib.Core.Path.{refl, ◌∙◌}
use Prim.Native.Nat.{◌-◌}
use native.Mathlib.Nat.{le_refl}
use native.Mathlib.Omega.{arith}
use lib.ListN.{length}
use Rattle.comparing.proofs.Between.{counted_on}
use Rattle.block_compare.proofs.Blocks.{none_counted, start_counted, end_counted}
use Rattle.block_compare.proofs.block_len.Goals as goal

pub block_alike-requires : goal.block_alike-requires
block_alike-requires c = ((_, (_, c.requires.0)), c.requires.1, c.requires.2, c.requires.3)

pub returns-then-block_alike : goal.returns-then-block_alike
returns-then-block_alike c =
    let a = c.args in
    (λ g. none_counted a.first.now a.second.now g _ _ (c.block_alike.ensures _ _ g c.if-block_alike.true), omega arith)

pub loop-i-init : goal.loop-i-init
loop-i-init c =
    let a = c.args in
    (refl, omega arith, λ g. start_counted a.first.now a.second.now g _)

pub one_len-len-requires : goal.one_len-len-requires
one_len-len-requires c =
    let l = c.loop-i in
    (c.requires.0, omega (arith, c.requires.2, c.loop-i-test.true), omega (arith, c.requires.4, l.invariant.0, c.block_alike.auto.staging))

pub overflow_add-len : goal.overflow_add-len
overflow_add-len c =
    let l = c.loop-i in
    omega (arith, c.one_len-len.ensures.1, c.requires.0.few, c.requires.2, l.auto.i, (c.loop-i.auto.i-end c.requires.1), l.invariant.1)

pub loop-i-preserved : goal.loop-i-preserved
loop-i-preserved c =
    let a = c.args in
    let l = c.loop-i in
    let o = c.one_len-len in
    (◌∙◌ {b = length l.staging} o.auto.staging l.invariant.0, omega (arith, o.ensures.1, l.auto.i, l.invariant.1), λ g. counted_on a.first.now a.second.now g _ _ _ _ _ l.auto.i (omega arith) (l.invariant.2 g) (o.ensures.0 g))

pub shape_of-staging : goal.shape_of-staging
shape_of-staging c = c.loop-i.invariant.0 ∙ c.block_alike.auto.staging

pub returns : goal.returns
returns c =
    let a = c.args in
    let l = c.loop-i in
    (λ g. end_counted a.first.now a.second.now g _ _ _ _ (c.loop-i.auto.i-end c.requires.1) c.loop-i-test.false (l.invariant.2 g), omega (arith, l.auto.i, (c.loop-i.auto.i-end c.requires.1), l.invariant.1))
