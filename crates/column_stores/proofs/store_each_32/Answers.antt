-- `column_stores::store_each_32` meets its contract. The loop's invariant: the first i records are written, and record i begins at start. Assumes nothing.
use mathlib.Core.Path.{refl, ◌∙◌}
use Prim.Native.Nat.{◌+◌, ◌*◌, ◌≤◌}
use native.Mathlib.Omega.{arith}
use lib.ListN.{length}
use Rattle.easy.proofs.Lent.{lent_length}
use Rattle.loops.proofs.Lists.{row_within}
use Rattle.blocks.proofs.Turns.{each_start}
use Rattle.column_merges.proofs.Starts.{next_start, store_start}
use Rattle.column_stores.proofs.store_each_32.Goals as goal

pub loop-i-init : goal.loop-i-init
loop-i-init c = (omega arith, refl, each_start _ _ _)

pub loop-i-preserved : goal.loop-i-preserved
loop-i-preserved c =
    let l = c.loop-i in
    let a = c.args in
    let low : l.i * a.record_size + a.record_size ≤ length l.dst = omega (arith, l.invariant.1, (row_within c.args.record_size c.loop-i-test.true)) in (
      next_start l.i a.record_size l.invariant.0,
      lent_length l.start l.dst c.store.new.d (omega (arith, l.invariant.0)) c.store.auto.d ∙ l.invariant.1,
      store_start a.order a.size a.byte 0 a.t.now a.record_size l.i l.dst low (omega arith) l.invariant.0 a.dst.now c.store.new.d refl l.invariant.2 c.store.ensures,
    )
