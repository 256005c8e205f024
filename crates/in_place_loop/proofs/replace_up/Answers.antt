-- `in_place_loop::replace_up` meets its contract: blocks, then record by record. The loop's invariant: up to where record i goes the buffer is the result's, from source record i on as it was, if so it was before. Assumes nothing.
use mathlib.Core.Path.{◌≡◌, refl, ◌∙◌}
use Prim.Native.Nat.{◌≤◌, ◌<◌, ◌-◌, ◌+◌}
use native.Mathlib.Nat.{mul-le-mul_left}
use native.Mathlib.Omega.{arith}
use Rattle.loops.proofs.Lists.{row_within}
use Rattle.loops.proofs.Jobs.{source_most}
use Rattle.loops.proofs.PlaceTurns.{up_turn}
use Rattle.blocks.proofs.Counted.{all_most}
use Rattle.in_place_loop.proofs.replace_up.Goals as goal

pub bulk_up-done-requires : goal.bulk_up-done-requires
bulk_up-done-requires c =
    let p = c.requires in
    (p.0, p.1, p.2, omega arith, p.3, p.4)

pub loop-i-init : goal.loop-i-init
loop-i-init c =
    let o = c.bulk_up-done in
    (refl, o.auto.staging, λ j first same up. up)

pub replace_record-total-requires : goal.replace_record-total-requires
replace_record-total-requires c =
    let a = c.args in
    let l = c.loop-i in
    let o = c.bulk_up-done in
    let same = o.auto.buf in
    let hi : l.i < a.count = omega arith in (
      c.requires.0,
      omega (arith, same, row_within a.source_size hi),
      omega (arith, same, row_within a.source_size hi, mul-le-mul_left l.i c.requires.2),
      omega (arith, row_within a.destination_size hi),
      omega (arith, source_most c.requires.0),
    )

pub overflow_add-total : goal.overflow_add-total
overflow_add-total c =
    let counted : c.loop-i.total + c.replace_record-total.result ≤ 268435456 =
    let a = c.args in let l = c.loop-i in let o = c.replace_record-total in let done = c.bulk_up-done in let here = c.loop-i-test.true in let hi : l.i < a.count = omega (arith, here, l.auto.i-end) in let j = c.requires.0 in let turned = up_turn j.source j.destination j.source_formed j.destination_formed a.source_size a.destination_size j.source_size j.destination_size a.count a.buf.now a.background.now c.requires.4 l.i l.total o.result l.buf _ (omega (arith, c.requires.3, done.auto.buf, done.auto.buf)) c.requires.2 hi (l.invariant.0 ∙ done.auto.buf) (l.invariant.2 j a.buf.now done.auto.buf (done.ensures.1 j)) (o.ensures j) in omega (arith, turned.2, all_most j a.buf.now (l.i + 1), c.requires.1) in
    omega (arith, counted)

pub loop-i-preserved : goal.loop-i-preserved
loop-i-preserved c =
    let a = c.args in
    let l = c.loop-i in
    let o = c.replace_record-total in
    let done = c.bulk_up-done in
    let here = c.loop-i-test.true in
    let hi : l.i < a.count = omega (arith, here, l.auto.i-end) in (
      o.auto.buf ∙ l.invariant.0,
      o.auto.staging ∙ l.invariant.1,
      λ j first same up. up_turn j.source j.destination j.source_formed j.destination_formed a.source_size a.destination_size j.source_size j.destination_size a.count first a.background.now c.requires.4 l.i l.total o.result l.buf _ (omega (arith, c.requires.3, done.auto.buf, same)) c.requires.2 hi (l.invariant.0 ∙ same) (l.invariant.2 j first same up) (o.ensures j),
    )

pub shape_of-buf : goal.shape_of-buf
shape_of-buf c = c.loop-i.invariant.0 ∙ c.bulk_up-done.auto.buf

pub returns : goal.returns
returns c =
    let a = c.args in
    let l = c.loop-i in
    let done = c.bulk_up-done in
    let end : l.i ≡ a.count = omega arith in
    λ j. rw end at (l.invariant.2 j a.buf.now done.auto.buf (done.ensures.1 j))
