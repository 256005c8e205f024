-- `copy_blocks::copy_plain` meets its contract. The loop's invariant: before record i the destination is the result's, from it on as it was at the call,
-- and each slot that has a pair of types has its words. Assumes nothing.
use mathlib.Core.Path.{refl, sym, ◌∙◌}
use Prim.Native.Nat.{◌+◌, ◌*◌, ◌-◌, ◌≤◌}
use native.Mathlib.Omega.{arith}
use borrow.Rule.Slice.PartMut.{put_mid}
use lib.ListN.{length}
use Rattle.easy.proofs.Lent.{lent_room, lent_length}
use Rattle.plans.specs.PlanWords.{Job}
use Rattle.loops.specs.Steps.{Done}
use Rattle.loops.proofs.CopyTurns as copy-turns
use Rattle.column_slots.proofs.Slots.{kept_none}
use Rattle.blocks.proofs.BlockTurns.{block_rows, job_ready, job_turn}
use Rattle.blocks.proofs.Counted.{all_most}
use Rattle.copy_blocks.proofs.copy_plain.Goals as goal

pub parts_of-parts-requires : goal.parts_of-parts-requires
parts_of-parts-requires c = (c.args.words.now, job_ready c.requires.0)

pub loop-i-init : goal.loop-i-init
loop-i-init c =
    let a = c.args in
    (omega arith, refl, refl, refl, refl, kept_none a.source_half.now a.destination_half.now, λ j. copy-turns.start j.source j.destination a.destination_size a.count a.src.now a.dst.now)

pub least-k-requires : goal.least-k-requires
least-k-requires c = (omega arith, omega arith)

pub overflow_mul-i : goal.overflow_mul-i
overflow_mul-i c =
    let rows : (let a = c.args in let i = c.loop-i.i in let k = c.least-k.result in (i * a.source_size + k * a.source_size ≤ a.count * a.source_size) × (i * a.destination_size + k * a.destination_size ≤ a.count * a.destination_size) × (i + k ≤ a.count)) =
    let a = c.args in let i = c.loop-i.i in let k = c.least-k.result in let within : i + k ≤ a.count = omega (arith, c.least-k.ensures, c.loop-i-test.true) in (block_rows i k a.count a.source_size within, block_rows i k a.count a.destination_size within, within) in
    omega (arith, rows)

pub slice_bounds-grouped_block-count : goal.slice_bounds-grouped_block-count
slice_bounds-grouped_block-count c =
    let rows : (let a = c.args in let i = c.loop-i.i in let k = c.least-k.result in (i * a.source_size + k * a.source_size ≤ a.count * a.source_size) × (i * a.destination_size + k * a.destination_size ≤ a.count * a.destination_size) × (i + k ≤ a.count)) =
    let a = c.args in let i = c.loop-i.i in let k = c.least-k.result in let within : i + k ≤ a.count = omega (arith, c.least-k.ensures, c.loop-i-test.true) in (block_rows i k a.count a.source_size within, block_rows i k a.count a.destination_size within, within) in
    omega (arith, rows)

pub slice_bounds-grouped_block-start : goal.slice_bounds-grouped_block-start
slice_bounds-grouped_block-start c =
    let rows : (let a = c.args in let i = c.loop-i.i in let k = c.least-k.result in (i * a.source_size + k * a.source_size ≤ a.count * a.source_size) × (i * a.destination_size + k * a.destination_size ≤ a.count * a.destination_size) × (i + k ≤ a.count)) =
    let a = c.args in let i = c.loop-i.i in let k = c.least-k.result in let within : i + k ≤ a.count = omega (arith, c.least-k.ensures, c.loop-i-test.true) in (block_rows i k a.count a.source_size within, block_rows i k a.count a.destination_size within, within) in
    omega (arith, rows)

pub overflow_mul-i-in-loop-i : goal.overflow_mul-i-in-loop-i
overflow_mul-i-in-loop-i c =
    let rows : (let a = c.args in let i = c.loop-i.i in let k = c.least-k.result in (i * a.source_size + k * a.source_size ≤ a.count * a.source_size) × (i * a.destination_size + k * a.destination_size ≤ a.count * a.destination_size) × (i + k ≤ a.count)) =
    let a = c.args in let i = c.loop-i.i in let k = c.least-k.result in let within : i + k ≤ a.count = omega (arith, c.least-k.ensures, c.loop-i-test.true) in (block_rows i k a.count a.source_size within, block_rows i k a.count a.destination_size within, within) in
    omega (arith, rows)

pub slice_bounds-grouped_block-count-in-loop-i : goal.slice_bounds-grouped_block-count-in-loop-i
slice_bounds-grouped_block-count-in-loop-i c =
    let rows : (let a = c.args in let i = c.loop-i.i in let k = c.least-k.result in (i * a.source_size + k * a.source_size ≤ a.count * a.source_size) × (i * a.destination_size + k * a.destination_size ≤ a.count * a.destination_size) × (i + k ≤ a.count)) =
    let a = c.args in let i = c.loop-i.i in let k = c.least-k.result in let within : i + k ≤ a.count = omega (arith, c.least-k.ensures, c.loop-i-test.true) in (block_rows i k a.count a.source_size within, block_rows i k a.count a.destination_size within, within) in
    omega (arith, rows)

pub slice_bounds-grouped_block-start-in-loop-i : goal.slice_bounds-grouped_block-start-in-loop-i
slice_bounds-grouped_block-start-in-loop-i c =
    let rows : (let a = c.args in let i = c.loop-i.i in let k = c.least-k.result in (i * a.source_size + k * a.source_size ≤ a.count * a.source_size) × (i * a.destination_size + k * a.destination_size ≤ a.count * a.destination_size) × (i + k ≤ a.count)) =
    let a = c.args in let i = c.loop-i.i in let k = c.least-k.result in let within : i + k ≤ a.count = omega (arith, c.least-k.ensures, c.loop-i-test.true) in (block_rows i k a.count a.source_size within, block_rows i k a.count a.destination_size within, within) in
    omega (arith, rows)

pub slice_bounds-grouped_block-end-in-loop-i-2 : goal.slice_bounds-grouped_block-end-in-loop-i-2
slice_bounds-grouped_block-end-in-loop-i-2 c = sym c.loop-i.invariant.2

pub slice_bounds-grouped_block-end-in-loop-i-3 : goal.slice_bounds-grouped_block-end-in-loop-i-3
slice_bounds-grouped_block-end-in-loop-i-3 c = sym c.loop-i.invariant.3

pub slice_bounds-grouped_block-end-in-loop-i-4 : goal.slice_bounds-grouped_block-end-in-loop-i-4
slice_bounds-grouped_block-end-in-loop-i-4 c = sym c.loop-i.invariant.4

pub grouped_block-raised-requires : goal.grouped_block-raised-requires
grouped_block-raised-requires c =
    let rows : (let a = c.args in let i = c.loop-i.i in let k = c.least-k.result in (i * a.source_size + k * a.source_size ≤ a.count * a.source_size) × (i * a.destination_size + k * a.destination_size ≤ a.count * a.destination_size) × (i + k ≤ a.count)) =
    let a = c.args in let i = c.loop-i.i in let k = c.least-k.result in let within : i + k ≤ a.count = omega (arith, c.least-k.ensures, c.loop-i-test.true) in (block_rows i k a.count a.source_size within, block_rows i k a.count a.destination_size within, within) in
    let a = c.args in
    let l = c.loop-i in
    let least = c.least-k in
    let tabled = c.requires.1 _ _ (job_ready c.requires.0) in
    let r = rows in (
      (a.words.now, job_ready c.requires.0, tabled.1, tabled.0),
      c.requires.2,
      c.parts_of-parts.ensures,
      l.invariant.5,
      omega (arith, l.invariant.2),
      omega (arith, r.2, c.requires.3),
      omega (arith, l.invariant.3),
      omega (arith, l.invariant.4),
      lent_room (l.i * a.source_size) (least.result * a.source_size) a.src.now (omega (arith, r.0, c.requires.4)),
      lent_room (l.i * a.destination_size) (least.result * a.destination_size) l.dst (omega (arith, r.1, l.invariant.1, c.requires.5)),
    )

pub overflow_add-raised : goal.overflow_add-raised
overflow_add-raised c =
    let rows : (let a = c.args in let i = c.loop-i.i in let k = c.least-k.result in (i * a.source_size + k * a.source_size ≤ a.count * a.source_size) × (i * a.destination_size + k * a.destination_size ≤ a.count * a.destination_size) × (i + k ≤ a.count)) =
    let a = c.args in let i = c.loop-i.i in let k = c.least-k.result in let within : i + k ≤ a.count = omega (arith, c.least-k.ensures, c.loop-i-test.true) in (block_rows i k a.count a.source_size within, block_rows i k a.count a.destination_size within, within) in
    let next : (let a = c.args in let l = c.loop-i in (j : Job a.source_size a.destination_size a.plan.now a.entries a.source_half.now a.destination_half.now a.words.now) → Done j.source j.destination a.destination_size a.count a.src.now a.dst.now (l.i + c.least-k.result) (put_mid (l.i * a.destination_size) (length l.dst - l.i * a.destination_size) l.dst c.grouped_block-raised.new.dst) (l.raised + c.grouped_block-raised.result)) =
    λ j. let a = c.args in let l = c.loop-i in let call = c.grouped_block-raised in job_turn j a.count a.src.now a.dst.now c.requires.5 l.i c.least-k.result l.raised call.result l.dst call.new.dst (rows).2 l.invariant.1 (l.invariant.6 j) (λ t. call.ensures.0 a.words.now t (c.requires.1 _ _ t).1 (c.requires.1 _ _ t).0) in
    let a = c.args in
    let l = c.loop-i in
    let j = c.requires.0 in
    omega (arith, (next j).2, all_most j a.src.now (l.i + c.least-k.result), (rows).2, c.requires.3)

pub overflow_add-i-in-loop-i : goal.overflow_add-i-in-loop-i
overflow_add-i-in-loop-i c =
    let rows : (let a = c.args in let i = c.loop-i.i in let k = c.least-k.result in (i * a.source_size + k * a.source_size ≤ a.count * a.source_size) × (i * a.destination_size + k * a.destination_size ≤ a.count * a.destination_size) × (i + k ≤ a.count)) =
    let a = c.args in let i = c.loop-i.i in let k = c.least-k.result in let within : i + k ≤ a.count = omega (arith, c.least-k.ensures, c.loop-i-test.true) in (block_rows i k a.count a.source_size within, block_rows i k a.count a.destination_size within, within) in
    omega (arith, (rows).2, c.requires.3)

pub loop-i-smaller : goal.loop-i-smaller
loop-i-smaller c =
    let rows : (let a = c.args in let i = c.loop-i.i in let k = c.least-k.result in (i * a.source_size + k * a.source_size ≤ a.count * a.source_size) × (i * a.destination_size + k * a.destination_size ≤ a.count * a.destination_size) × (i + k ≤ a.count)) =
    let a = c.args in let i = c.loop-i.i in let k = c.least-k.result in let within : i + k ≤ a.count = omega (arith, c.least-k.ensures, c.loop-i-test.true) in (block_rows i k a.count a.source_size within, block_rows i k a.count a.destination_size within, within) in
    omega (arith, rows, c.least-k.ensures)

pub loop-i-preserved : goal.loop-i-preserved
loop-i-preserved c =
    let rows : (let a = c.args in let i = c.loop-i.i in let k = c.least-k.result in (i * a.source_size + k * a.source_size ≤ a.count * a.source_size) × (i * a.destination_size + k * a.destination_size ≤ a.count * a.destination_size) × (i + k ≤ a.count)) =
    let a = c.args in let i = c.loop-i.i in let k = c.least-k.result in let within : i + k ≤ a.count = omega (arith, c.least-k.ensures, c.loop-i-test.true) in (block_rows i k a.count a.source_size within, block_rows i k a.count a.destination_size within, within) in
    let next : (let a = c.args in let l = c.loop-i in (j : Job a.source_size a.destination_size a.plan.now a.entries a.source_half.now a.destination_half.now a.words.now) → Done j.source j.destination a.destination_size a.count a.src.now a.dst.now (l.i + c.least-k.result) (put_mid (l.i * a.destination_size) (length l.dst - l.i * a.destination_size) l.dst c.grouped_block-raised.new.dst) (l.raised + c.grouped_block-raised.result)) =
    λ j. let a = c.args in let l = c.loop-i in let call = c.grouped_block-raised in job_turn j a.count a.src.now a.dst.now c.requires.5 l.i c.least-k.result l.raised call.result l.dst call.new.dst (rows).2 l.invariant.1 (l.invariant.6 j) (λ t. call.ensures.0 a.words.now t (c.requires.1 _ _ t).1 (c.requires.1 _ _ t).0) in
    let a = c.args in
    let l = c.loop-i in
    let call = c.grouped_block-raised in
    let r = rows in (
      r.2,
      lent_length (l.i * a.destination_size) l.dst call.new.dst (omega (arith, r.1, l.invariant.1, c.requires.5)) call.auto.dst ∙ l.invariant.1,
      call.auto.slots ∙ l.invariant.2,
      call.auto.narrow ∙ l.invariant.3,
      call.auto.wide ∙ l.invariant.4,
      call.ensures.1,
      next,
    )

pub shape_of-dst : goal.shape_of-dst
shape_of-dst c = c.loop-i.invariant.1

pub returns : goal.returns
returns c = (c.loop-i.invariant.0, c.loop-i.invariant.6)
