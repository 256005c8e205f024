-- `scan_loop::first_exception` meets its contract. The loop's invariant: the first exception is among the records from i on. Assumes nothing.
use Prim.Native.Nat.{◌*◌}
use native.Mathlib.Nat.{le_refl}
use native.Mathlib.Omega.{arith}
use Rattle.records.specs.Plan.{plan_of}
use Rattle.easy.proofs.Lent.{lent_room}
use Rattle.loops.proofs.Lists.{row_within}
use Rattle.loops.proofs.Jobs.{ready, job_scan}
use Rattle.loops.proofs.ScanTurns.{stop_end, stop_found, stop_turn}
use Rattle.quiet_blocks.proofs.Quiet.{quiet_start}
use Rattle.scan_loop.proofs.first_exception.Goals as goal

pub copied_at_once-requires : goal.copied_at_once-requires
copied_at_once-requires c = tt

pub quiet_records-block-requires : goal.quiet_records-block-requires
quiet_records-block-requires c =
    let p = c.requires in
    (p.0, p.1, p.2, omega arith, c.copied_at_once.ensures.0, c.copied_at_once.ensures.1, λ d j. quiet_start j c.args.count c.args.src.now)

pub quiet_records-quiet-requires : goal.quiet_records-quiet-requires
quiet_records-quiet-requires c =
    let p = c.requires in
    let found = c.quiet_records-block.ensures in
    (p.0, p.1, p.2, found.0, omega arith, omega arith, found.1)

pub loop-i-init : goal.loop-i-init
loop-i-init c = c.quiet_records-quiet.ensures.1

pub overflow_mul-i : goal.overflow_mul-i
overflow_mul-i c = omega (arith, row_within c.args.source_size c.loop-i-test.true)

pub slice_bounds-first_raising-count : goal.slice_bounds-first_raising-count
slice_bounds-first_raising-count c = omega (arith, row_within c.args.source_size c.loop-i-test.true)

pub slice_bounds-first_raising-start : goal.slice_bounds-first_raising-start
slice_bounds-first_raising-start c = omega (arith, row_within c.args.source_size c.loop-i-test.true)

pub first_raising-requires : goal.first_raising-requires
first_raising-requires c =
    let a = c.args in
    (c.requires.0.0, ready c.requires.0.1 (lent_room (c.loop-i.i * a.source_size) a.source_size a.src.now (omega (arith, row_within c.args.source_size c.loop-i-test.true))) (le_refl _))

pub returns-in-Some : goal.returns-in-Some
returns-in-Some c =
    let a = c.args in
    let l = c.loop-i in
    let r = c.first_raising in
    λ d j. stop_found (plan_of j.source j.destination) a.source_size a.src.now a.count l.i _ r.result (omega arith) (l.invariant d j) (job_scan j a.src.now (l.i * a.source_size) r.result (omega (arith, row_within c.args.source_size c.loop-i-test.true, c.requires.2)) r.ensures) c.in-Some.is

pub loop-i-preserved : goal.loop-i-preserved
loop-i-preserved c =
    let a = c.args in
    let l = c.loop-i in
    let r = c.first_raising in
    λ d j. stop_turn (plan_of j.source j.destination) a.source_size a.src.now a.count l.i r.result (omega arith) (l.invariant d j) (job_scan j a.src.now (l.i * a.source_size) r.result (omega (arith, row_within c.args.source_size c.loop-i-test.true, c.requires.2)) r.ensures) c.in_default.is

pub returns : goal.returns
returns c =
    let a = c.args in
    λ d j. stop_end (plan_of j.source j.destination) a.source_size a.src.now a.count c.loop-i.i (omega arith) (c.loop-i.invariant d j)
