-- `block_compare::put_block` meets its contract. The loop's invariant: the lines of the records before k are written. Assumes nothing.
use mathlib.Core.Path.{refl, ◌∙◌}
use Prim.Native.Nat.{◌+◌, ◌-◌}
use native.Mathlib.Nat.{le_refl}
use native.Mathlib.Omega.{arith}
use lib.ListN.{length}
use Rattle.comparing.proofs.Between.{part_room, wrote_on}
use Rattle.block_compare.proofs.Blocks.{none_written, start_written, end_written}
use Rattle.block_compare.proofs.put_block.Goals as goal

pub block_alike-requires : goal.block_alike-requires
block_alike-requires c = ((_, (_, c.requires.0)), c.requires.1, c.requires.2, c.requires.3)

pub returns-then-block_alike : goal.returns-then-block_alike
returns-then-block_alike c =
    let a = c.args in
    λ g. none_written a.first.now a.second.now g _ _ (c.block_alike.ensures _ _ g c.if-block_alike.true) _ _

pub loop-k-init : goal.loop-k-init
loop-k-init c =
    let a = c.args in
    (refl, λ g. start_written a.first.now a.second.now g _ _ _)

pub put_one-next-requires : goal.put_one-next-requires
put_one-next-requires c =
    let a = c.args in
    let l = c.loop-k in
    (c.requires.0, omega (arith, c.requires.2, c.loop-k-test.true), omega (arith, c.requires.4, l.invariant.0, c.block_alike.auto.staging), λ g. part_room {x = a.x} {ss = a.first_sheet.now} {ws = a.first_half.now} {ds = a.second_sheet.now} {wd = a.second_half.now} {plan = a.plan.now} {words = a.words.now} a.first.now a.second.now g a.list.now a.at a.from l.k (l.k + 1) a.to (c.requires.5 g) l.auto.k (omega arith) (omega (arith, c.loop-k-test.true)) l.list l.next (l.invariant.1 g))

pub loop-k-preserved : goal.loop-k-preserved
loop-k-preserved c =
    let a = c.args in
    let l = c.loop-k in
    let o = c.put_one-next in
    (◌∙◌ {b = length l.staging} o.auto.staging l.invariant.0, λ g. wrote_on a.first.now a.second.now g a.list.now a.at a.from l.k (l.k + 1) a.to (c.requires.5 g) l.auto.k (omega arith) (omega (arith, c.loop-k-test.true)) l.list l.next (l.invariant.1 g) o.new.list o.result (o.ensures g))

pub shape_of-list : goal.shape_of-list
shape_of-list c = (c.loop-k.invariant.1 c.requires.0).same

pub shape_of-staging : goal.shape_of-staging
shape_of-staging c = c.loop-k.invariant.0 ∙ c.block_alike.auto.staging

pub returns : goal.returns
returns c =
    let a = c.args in
    let l = c.loop-k in
    λ g. end_written a.first.now a.second.now g _ _ _ _ _ _ _ (c.loop-k.auto.k-end c.requires.1) c.loop-k-test.false (l.invariant.1 g)
