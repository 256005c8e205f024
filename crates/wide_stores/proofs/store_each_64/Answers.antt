-- `wide_stores::store_each_64` meets its contract. The loop's invariant: the first i records are written, and record i begins at start. Assumes nothing.
use mathlib.Core.Path.{◌≡◌, refl, ◌∙◌}
use Prim.Native.Nat.{◌+◌, ◌*◌, ◌≤◌}
use native.Mathlib.Omega.{arith}
use lib.ListN.{length}
use Rattle.easy.proofs.Lent.{lent_room, lent_length}
use Rattle.loops.proofs.Lists.{row_within}
use Rattle.blocks.proofs.Turns.{each_start}
use Rattle.column_merges.proofs.Starts.{next_start, store_start}
use Rattle.wide_stores.proofs.store_each_64.Goals as goal

pub loop-i-init : goal.loop-i-init
loop-i-init c = (omega arith, refl, each_start _ _ _)

pub slice_bounds-store-count : goal.slice_bounds-store-count
slice_bounds-store-count c = omega (arith, c.loop-i.invariant.0, c.loop-i.invariant.1, (row_within c.args.record_size c.loop-i-test.true))

pub slice_bounds-store-start : goal.slice_bounds-store-start
slice_bounds-store-start c = omega (arith, c.loop-i.invariant.0, c.loop-i.invariant.1, (row_within c.args.record_size c.loop-i-test.true))

pub slice_bounds-store-end : goal.slice_bounds-store-end
slice_bounds-store-end c = omega (arith, c.loop-i.invariant.0, c.loop-i.invariant.1, (row_within c.args.record_size c.loop-i-test.true))

pub store-requires : goal.store-requires
store-requires c =
    let a = c.args in
    let l = c.loop-i in
    (omega arith, lent_room l.start (a.byte + a.size) l.dst (omega (arith, l.invariant.0, l.invariant.1, (row_within c.args.record_size c.loop-i-test.true))))

pub overflow_add-start : goal.overflow_add-start
overflow_add-start c = omega (arith, c.loop-i.invariant.0, c.loop-i.invariant.1, (row_within c.args.record_size c.loop-i-test.true))

pub loop-i-preserved : goal.loop-i-preserved
loop-i-preserved c =
    let l = c.loop-i in
    let a = c.args in
    let low : l.i * a.record_size + a.record_size ≤ length l.dst = omega (arith, l.invariant.1, (row_within c.args.record_size c.loop-i-test.true)) in (
      next_start l.i a.record_size l.invariant.0,
      lent_length l.start l.dst c.store.new.d (omega (arith, l.invariant.0)) c.store.auto.d ∙ l.invariant.1,
      store_start a.order a.size a.byte 0 a.t.now a.record_size l.i l.dst low (omega arith) l.invariant.0 a.dst.now c.store.new.d refl l.invariant.2 c.store.ensures,
    )

pub shape_of-dst : goal.shape_of-dst
shape_of-dst c = c.loop-i.invariant.1

pub returns : goal.returns
returns c =
    let l = c.loop-i in
    let end : l.i ≡ c.args.count = omega arith in
    rw end at l.invariant.2
