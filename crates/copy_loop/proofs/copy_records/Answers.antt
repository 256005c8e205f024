-- `copy_loop::copy_records` meets its contract. The loop's invariant: before record i the destination is the result's, from it on as
-- it was at the call, if this holds where the loop begins. Assumes nothing.
use mathlib.Core.Path.{◌≡◌, refl, ◌∙◌}
use mathlib.Core.List.{◌++◌}
use Prim.Native.Nat.{◌≤◌, ◌*◌, ◌+◌}
use native.Mathlib.Omega.{arith}
use lib.ListN.{take, drop}
use Rattle.plans.specs.PlanWords.{Job}
use Rattle.easy.proofs.Lent.{lent_room, lent_length}
use Rattle.loops.specs.Steps.{record_by, raised_of}
use Rattle.loops.proofs.Lists.{row_within}
use Rattle.loops.proofs.Jobs.{ready, job_parts, raised_small}
use Rattle.loops.proofs.CopyTurns.{turn, finish}
use Rattle.blocks.proofs.Counted.{all_most}
use Rattle.copy_loop.proofs.copy_records.Goals as goal

pub copy_bulk-done-requires : goal.copy_bulk-done-requires
copy_bulk-done-requires c = c.requires

pub loop-i-init : goal.loop-i-init
loop-i-init c =
    let call = c.copy_bulk-done in
    let j = c.requires.0 in
    (refl, omega (arith, (call.ensures.1 j).2, all_most j c.args.src.now call.result.records), λ j was same room done. done)

pub overflow_mul-i : goal.overflow_mul-i
overflow_mul-i c =
    let rows : (let a = c.args in let i = c.loop-i.i in (i * a.source_size + a.source_size ≤ a.count * a.source_size) × (i * a.destination_size + a.destination_size ≤ a.count * a.destination_size)) =
    let a = c.args in (row_within a.source_size c.loop-i-test.true, row_within a.destination_size c.loop-i-test.true) in
    omega (arith, rows)

pub slice_bounds-write_record-count : goal.slice_bounds-write_record-count
slice_bounds-write_record-count c =
    let rows : (let a = c.args in let i = c.loop-i.i in (i * a.source_size + a.source_size ≤ a.count * a.source_size) × (i * a.destination_size + a.destination_size ≤ a.count * a.destination_size)) =
    let a = c.args in (row_within a.source_size c.loop-i-test.true, row_within a.destination_size c.loop-i-test.true) in
    omega (arith, rows)

pub slice_bounds-write_record-start : goal.slice_bounds-write_record-start
slice_bounds-write_record-start c =
    let rows : (let a = c.args in let i = c.loop-i.i in (i * a.source_size + a.source_size ≤ a.count * a.source_size) × (i * a.destination_size + a.destination_size ≤ a.count * a.destination_size)) =
    let a = c.args in (row_within a.source_size c.loop-i-test.true, row_within a.destination_size c.loop-i-test.true) in
    omega (arith, rows)

pub overflow_mul-i-in-loop-i : goal.overflow_mul-i-in-loop-i
overflow_mul-i-in-loop-i c =
    let rows : (let a = c.args in let i = c.loop-i.i in (i * a.source_size + a.source_size ≤ a.count * a.source_size) × (i * a.destination_size + a.destination_size ≤ a.count * a.destination_size)) =
    let a = c.args in (row_within a.source_size c.loop-i-test.true, row_within a.destination_size c.loop-i-test.true) in
    omega (arith, rows)

pub slice_bounds-write_record-count-in-loop-i : goal.slice_bounds-write_record-count-in-loop-i
slice_bounds-write_record-count-in-loop-i c =
    let rows : (let a = c.args in let i = c.loop-i.i in (i * a.source_size + a.source_size ≤ a.count * a.source_size) × (i * a.destination_size + a.destination_size ≤ a.count * a.destination_size)) =
    let a = c.args in (row_within a.source_size c.loop-i-test.true, row_within a.destination_size c.loop-i-test.true) in
    omega (arith, rows)

pub slice_bounds-write_record-start-in-loop-i : goal.slice_bounds-write_record-start-in-loop-i
slice_bounds-write_record-start-in-loop-i c =
    let rows : (let a = c.args in let i = c.loop-i.i in (i * a.source_size + a.source_size ≤ a.count * a.source_size) × (i * a.destination_size + a.destination_size ≤ a.count * a.destination_size)) =
    let a = c.args in (row_within a.source_size c.loop-i-test.true, row_within a.destination_size c.loop-i-test.true) in
    omega (arith, rows)

pub write_record-total-requires : goal.write_record-total-requires
write_record-total-requires c =
    let rows : (let a = c.args in let i = c.loop-i.i in (i * a.source_size + a.source_size ≤ a.count * a.source_size) × (i * a.destination_size + a.destination_size ≤ a.count * a.destination_size)) =
    let a = c.args in (row_within a.source_size c.loop-i-test.true, row_within a.destination_size c.loop-i-test.true) in
    let a = c.args in
    ready c.requires.0 (lent_room (c.loop-i.i * a.source_size) a.source_size a.src.now (omega (arith, rows))) (lent_room (c.loop-i.i * a.destination_size) a.destination_size c.loop-i.dst (omega (arith, rows)))

pub overflow_add-total : goal.overflow_add-total
overflow_add-total c =
    let rows : (let a = c.args in let i = c.loop-i.i in (i * a.source_size + a.source_size ≤ a.count * a.source_size) × (i * a.destination_size + a.destination_size ≤ a.count * a.destination_size)) =
    let a = c.args in (row_within a.source_size c.loop-i-test.true, row_within a.destination_size c.loop-i-test.true) in
    let called : (let a = c.args in let l = c.loop-i in (j : Job a.source_size a.destination_size a.plan.now a.entries a.source_half.now a.destination_half.now a.words.now) → (c.write_record-total.new.dst ≡ record_by j (take a.source_size (drop (l.i * a.source_size) a.src.now)) (take a.destination_size (drop (l.i * a.destination_size) l.dst)) ++ drop a.destination_size (drop (l.i * a.destination_size) l.dst)) × (c.write_record-total.result ≡ raised_of j (take a.source_size (drop (l.i * a.source_size) a.src.now)))) =
    λ j. let a = c.args in let l = c.loop-i in job_parts j a.src.now l.dst _ (l.i * a.source_size) (l.i * a.destination_size) _ (omega (arith, rows)) (omega (arith, rows)) c.write_record-total.ensures in
    let small : c.write_record-total.result ≤ 4096 =
    let j = c.requires.0 in rw (called j).1 (raised_small j _) in
    omega (arith, small)

pub loop-i-preserved : goal.loop-i-preserved
loop-i-preserved c =
    let rows : (let a = c.args in let i = c.loop-i.i in (i * a.source_size + a.source_size ≤ a.count * a.source_size) × (i * a.destination_size + a.destination_size ≤ a.count * a.destination_size)) =
    let a = c.args in (row_within a.source_size c.loop-i-test.true, row_within a.destination_size c.loop-i-test.true) in
    let called : (let a = c.args in let l = c.loop-i in (j : Job a.source_size a.destination_size a.plan.now a.entries a.source_half.now a.destination_half.now a.words.now) → (c.write_record-total.new.dst ≡ record_by j (take a.source_size (drop (l.i * a.source_size) a.src.now)) (take a.destination_size (drop (l.i * a.destination_size) l.dst)) ++ drop a.destination_size (drop (l.i * a.destination_size) l.dst)) × (c.write_record-total.result ≡ raised_of j (take a.source_size (drop (l.i * a.source_size) a.src.now)))) =
    λ j. let a = c.args in let l = c.loop-i in job_parts j a.src.now l.dst _ (l.i * a.source_size) (l.i * a.destination_size) _ (omega (arith, rows)) (omega (arith, rows)) c.write_record-total.ensures in
    let small : c.write_record-total.result ≤ 4096 =
    let j = c.requires.0 in rw (called j).1 (raised_small j _) in
    let a = c.args in
    (lent_length (c.loop-i.i * a.destination_size) c.loop-i.dst c.write_record-total.new.dst (omega (arith, rows)) c.write_record-total.auto.dst ∙ c.loop-i.invariant.0, omega (arith, small), λ j was same room done. turn j.source j.destination j.source_formed j.destination_formed a.source_size a.destination_size j.source_size j.destination_size a.count a.src.now was room c.loop-i.i c.loop-i.total _ c.loop-i.dst _ (omega arith) (c.loop-i.invariant.0 ∙ same) (c.loop-i.invariant.2 j was same room done) (called j))

pub shape_of-dst : goal.shape_of-dst
shape_of-dst c = c.loop-i.invariant.0 ∙ c.copy_bulk-done.auto.dst

pub returns : goal.returns
returns c =
    let a = c.args in
    let call = c.copy_bulk-done in
    λ j. finish j.source j.destination j.source_formed j.destination_formed a.source_size a.destination_size j.source_size j.destination_size a.count a.src.now a.dst.now c.requires.3 c.loop-i.i c.loop-i.total c.loop-i.dst (omega arith) (c.loop-i.invariant.2 j a.dst.now call.auto.dst c.requires.3 (call.ensures.1 j))
