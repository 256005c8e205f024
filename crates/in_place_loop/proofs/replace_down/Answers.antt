-- `in_place_loop::replace_down` meets its contract: blocks, then record by record. The loop's invariant: from where record i goes the buffer is the result's, up to source record i as it was, if so it was before. Assumes nothing.
use mathlib.Core.Path.{◌≡◌, refl, ◌∙◌}
use Prim.Native.Nat.{◌≤◌, ◌<◌, ◌-◌, ◌+◌}
use native.Mathlib.Nat.{mul-le-mul_left}
use native.Mathlib.Omega.{arith}
use Rattle.loops.proofs.Lists.{row_within}
use Rattle.loops.proofs.Jobs.{source_most}
use Rattle.loops.proofs.PlaceTurns.{down_turn, down_end}
use Rattle.blocks.proofs.Counted.{all_most}
use Rattle.in_place_loop.proofs.replace_down.Goals as goal

pub bulk_down-done-requires : goal.bulk_down-done-requires
bulk_down-done-requires c =
    let p = c.requires in
    (p.0, p.1, p.2, omega arith, p.3, p.4)

pub loop-i-init : goal.loop-i-init
loop-i-init c =
    let o = c.bulk_down-done in
    (refl, o.auto.staging, λ j first same down. down)

pub replace_record-total-requires : goal.replace_record-total-requires
replace_record-total-requires c =
    let a = c.args in
    let l = c.loop-i in
    let o = c.bulk_down-done in
    let same = o.auto.buf in
    let hi : (l.i - 1) < a.count = omega arith in (
      c.requires.0,
      omega (arith, same, row_within a.destination_size hi, mul-le-mul_left (l.i - 1) c.requires.2),
      omega (arith, same, row_within a.destination_size hi),
      omega (arith, row_within a.destination_size hi),
      omega (arith, source_most c.requires.0),
    )

pub overflow_add-total : goal.overflow_add-total
overflow_add-total c =
    let counted : c.loop-i.total + c.replace_record-total.result ≤ 268435456 =
    let a = c.args in let l = c.loop-i in let o = c.replace_record-total in let done = c.bulk_down-done in let here = c.loop-i-test.true in let back : l.i ≡ (l.i - 1) + 1 = omega (arith, here) in let hi : (l.i - 1) < a.count = omega (arith, here, l.auto.i) in let j = c.requires.0 in let turned = down_turn j.source j.destination j.source_formed j.destination_formed a.source_size a.destination_size j.source_size j.destination_size a.count a.buf.now a.background.now c.requires.4 (l.i - 1) l.total o.result l.buf _ (omega (arith, c.requires.3, done.auto.buf, done.auto.buf)) c.requires.2 hi (l.invariant.0 ∙ done.auto.buf) (rw back at (l.invariant.2 j a.buf.now done.auto.buf (done.ensures.1 j))) (o.ensures j) in omega (arith, turned.2, all_most j a.buf.now a.count, c.requires.1) in
    omega (arith, counted)

pub loop-i-preserved : goal.loop-i-preserved
loop-i-preserved c =
    let a = c.args in
    let l = c.loop-i in
    let o = c.replace_record-total in
    let done = c.bulk_down-done in
    let here = c.loop-i-test.true in
    let back : l.i ≡ (l.i - 1) + 1 = omega (arith, here) in
    let hi : (l.i - 1) < a.count = omega (arith, here, l.auto.i) in (
      o.auto.buf ∙ l.invariant.0,
      o.auto.staging ∙ l.invariant.1,
      λ j first same down. down_turn j.source j.destination j.source_formed j.destination_formed a.source_size a.destination_size j.source_size j.destination_size a.count first a.background.now c.requires.4 (l.i - 1) l.total o.result l.buf _ (omega (arith, c.requires.3, done.auto.buf, same)) c.requires.2 hi (l.invariant.0 ∙ same) (rw back at (l.invariant.2 j first same down)) (o.ensures j),
    )

pub shape_of-buf : goal.shape_of-buf
shape_of-buf c = c.loop-i.invariant.0 ∙ c.bulk_down-done.auto.buf

pub returns : goal.returns
returns c =
    let a = c.args in
    let l = c.loop-i in
    let done = c.bulk_down-done in
    let end : l.i ≡ 0 = omega arith in
    λ j. down_end j.source j.destination j.source_formed j.destination_formed a.source_size a.destination_size j.source_size j.destination_size a.count a.buf.now a.background.now c.requires.4 l.buf l.total (rw end at (l.invariant.2 j a.buf.now done.auto.buf (done.ensures.1 j)))
