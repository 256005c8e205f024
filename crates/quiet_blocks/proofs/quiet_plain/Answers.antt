-- `quiet_blocks::quiet_plain` meets its contract. The invariant: the first exception is among the records from i on, and the slots have the words of their pairs. Assumes nothing.
use mathlib.Core.Path.{refl, sym, ◌∙◌}
use Prim.Native.Nat.{◌+◌, ◌*◌, ◌-◌, ◌≤◌}
use native.Mathlib.Omega.{arith}
use Rattle.easy.proofs.Lent.{lent_room}
use Rattle.column_slots.proofs.Slots.{kept_none}
use Rattle.blocks.proofs.BlockTurns.{block_rows, job_ready}
use Rattle.quiet_blocks.proofs.Quiet.{quiet_turn}
use Rattle.quiet_blocks.proofs.quiet_plain.Goals as goal

pub loop-i-init : goal.loop-i-init
loop-i-init c =
    let a = c.args in
    (c.requires.5, refl, refl, refl, kept_none a.source_half.now a.destination_half.now, c.requires.8)

pub overflow_sub-count : goal.overflow_sub-count
overflow_sub-count c = c.loop-i.invariant.0

pub least-k-requires : goal.least-k-requires
least-k-requires c = (omega arith, omega arith)

pub overflow_mul-i : goal.overflow_mul-i
overflow_mul-i c = omega (arith, block_rows c.loop-i.i c.least-k.result c.args.count c.args.source_size (omega arith))

pub slice_bounds-block_raised-count : goal.slice_bounds-block_raised-count
slice_bounds-block_raised-count c = omega (arith, block_rows c.loop-i.i c.least-k.result c.args.count c.args.source_size (omega arith))

pub slice_bounds-block_raised-start : goal.slice_bounds-block_raised-start
slice_bounds-block_raised-start c = omega (arith, block_rows c.loop-i.i c.least-k.result c.args.count c.args.source_size (omega arith))

pub slice_bounds-block_raised-end-in-loop-i : goal.slice_bounds-block_raised-end-in-loop-i
slice_bounds-block_raised-end-in-loop-i c = sym c.loop-i.invariant.1

pub slice_bounds-block_raised-end-in-loop-i-2 : goal.slice_bounds-block_raised-end-in-loop-i-2
slice_bounds-block_raised-end-in-loop-i-2 c = sym c.loop-i.invariant.2

pub slice_bounds-block_raised-end-in-loop-i-3 : goal.slice_bounds-block_raised-end-in-loop-i-3
slice_bounds-block_raised-end-in-loop-i-3 c = sym c.loop-i.invariant.3

pub block_raised-requires : goal.block_raised-requires
block_raised-requires c =
    let a = c.args in
    let l = c.loop-i in
    let k = c.least-k.result in
    let tabled = c.requires.1 _ _ (job_ready c.requires.0.1) in (
      (c.requires.0.0, a.words.now, job_ready c.requires.0.1, tabled.1, tabled.0),
      c.requires.2,
      l.invariant.4,
      omega arith,
      omega arith,
      omega arith,
      omega arith,
      lent_room (l.i * a.source_size) (k * a.source_size) a.src.now (omega (arith, c.requires.4, block_rows l.i k a.count a.source_size (omega arith))),
    )

pub returns-then-block_raised-ne0 : goal.returns-then-block_raised-ne0
returns-then-block_raised-ne0 c = (c.loop-i.invariant.0, c.loop-i.invariant.5)

pub loop-i-preserved : goal.loop-i-preserved
loop-i-preserved c =
    let a = c.args in
    let l = c.loop-i in
    let least = c.least-k in
    let k = least.result in
    let within : l.i + k ≤ a.count = omega (arith, least.ensures, l.invariant.0) in
    let call = c.block_raised in (
      within,
      call.auto.slots ∙ l.invariant.1,
      call.auto.narrow ∙ l.invariant.2,
      call.auto.wide ∙ l.invariant.3,
      call.ensures.1,
      λ d j. quiet_turn j a.tables.now c.requires.1 a.count a.src.now l.i k call.result within (l.invariant.5 d j) call.ensures.0 c.if-block_raised-ne0.false,
    )

pub returns : goal.returns
returns c = (c.loop-i.invariant.0, c.loop-i.invariant.5)
