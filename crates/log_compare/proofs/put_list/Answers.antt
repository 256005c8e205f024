-- `log_compare::put_list` meets its contract. The loop's invariant: behind the header, the lines of the records before k are written. Assumes nothing.
use mathlib.Core.Path.{refl, ◌∙◌}
use Prim.Native.Nat.{◌-◌}
use native.Mathlib.Omega.{arith}
use lib.ListN.{length}
use Rattle.comparing.proofs.Between.{part_room, wrote_on}
use Rattle.block_compare.proofs.Blocks.{start_written}
use Rattle.log_compare.proofs.Lists.{second_some, second_most, header_room, lines_room, list_written}
use Rattle.log_compare.proofs.put_list.Goals as goal

pub put_header-at-requires : goal.put_header-at-requires
put_header-at-requires c =
    let a = c.args in
    header_room a.first.now a.second.now c.requires.0 _ (c.requires.1 c.requires.0)

pub loop-k-init : goal.loop-k-init
loop-k-init c =
    let a = c.args in
    (omega arith, refl, λ g. start_written a.first.now a.second.now g _ _ _)

pub block_end-to-requires : goal.block_end-to-requires
block_end-to-requires c =
    let a = c.args in
    (c.loop-k-test.true, second_some a.first.now a.second.now c.requires.0, second_most a.first.now a.second.now c.requires.0)

pub put_block-at-requires : goal.put_block-at-requires
put_block-at-requires c =
    let a = c.args in
    let l = c.loop-k in
    let b = c.block_end-to.ensures in
    let h = c.put_header-at in
    (c.requires.0, omega (arith, b.0), b.1, omega (arith, b.2, l.invariant.1), omega (arith, second_most a.first.now a.second.now c.requires.0, l.invariant.1), λ g. part_room {x = a.x} {ss = a.first_sheet.now} {ws = a.first_half.now} {ds = a.second_sheet.now} {wd = a.second_half.now} {plan = a.plan.now} {words = a.words.now} a.first.now a.second.now g _ _ 0 l.k _ a.x.count (lines_room {x = a.x} {ss = a.first_sheet.now} {ws = a.first_half.now} {ds = a.second_sheet.now} {wd = a.second_half.now} {plan = a.plan.now} {words = a.words.now} a.first.now a.second.now g a.list.now (c.requires.1 g) _ _ h.ensures) (omega arith) (omega (arith, b.0)) b.1 l.list l.at (l.invariant.2 g))

pub loop-k-smaller : goal.loop-k-smaller
loop-k-smaller c =
    let b = c.block_end-to.ensures in
    omega (arith, b.0, b.1)

pub loop-k-preserved : goal.loop-k-preserved
loop-k-preserved c =
    let a = c.args in
    let l = c.loop-k in
    let b = c.block_end-to.ensures in
    let h = c.put_header-at in
    let o = c.put_block-at in
    (b.1, ◌∙◌ {b = length l.staging} o.auto.staging l.invariant.1, λ g. wrote_on a.first.now a.second.now g _ _ 0 l.k _ a.x.count (lines_room a.first.now a.second.now g a.list.now (c.requires.1 g) _ _ h.ensures) (omega arith) (omega (arith, b.0)) b.1 l.list l.at (l.invariant.2 g) o.new.list o.result (o.ensures g))

pub shape_of-list : goal.shape_of-list
shape_of-list c = (c.loop-k.invariant.2 c.requires.0).same ∙ c.put_header-at.ensures.same

pub returns : goal.returns
returns c =
    let a = c.args in
    let l = c.loop-k in
    let h = c.put_header-at in
    λ g. list_written a.first.now a.second.now g a.list.now (c.requires.1 g) _ _ h.ensures _ _ _ l.invariant.0 c.loop-k-test.false (l.invariant.2 g)
