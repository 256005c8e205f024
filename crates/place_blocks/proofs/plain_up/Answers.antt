-- `place_blocks::plain_up` meets its contract. The loop's invariant: up to where record i goes the buffer is the result's, from source record i on as it was. Assumes nothing.
use mathlib.Core.Path.{refl, ◌∙◌}
use Prim.Native.Nat.{◌≤◌, ◌-◌, ◌+◌}
use native.Mathlib.Nat.{mul-le-mul_left, mul-le-mul_right}
use native.Mathlib.Omega.{arith}
use Rattle.column_slots.proofs.Slots.{kept_none}
use Rattle.loops.proofs.Jobs.{source_most}
use Rattle.loops.proofs.PlaceTurns.{up_start}
use Rattle.blocks.proofs.BlockTurns.{block_rows, job_ready}
use Rattle.place_blocks.proofs.Placed.{up_placed}
use Rattle.blocks.proofs.Counted.{source_some, all_most}
use Rattle.place_blocks.proofs.plain_up.Goals as goal

pub staged_at_once-at_once-requires : goal.staged_at_once-at_once-requires
staged_at_once-at_once-requires c = (source_some c.requires.0, source_most c.requires.0)

pub is_whole-whole-requires : goal.is_whole-whole-requires
is_whole-whole-requires c = c.requires.0.room

pub loop-i-init : goal.loop-i-init
loop-i-init c =
    let a = c.args in
    (omega arith, refl, refl, refl, refl, refl, kept_none a.source_half.now a.destination_half.now, λ j. up_start j.source j.destination a.source_size a.destination_size a.count a.buf.now a.background.now)

pub least-k-requires : goal.least-k-requires
least-k-requires c = (omega arith, omega arith)

pub replace_block-raised-requires : goal.replace_block-raised-requires
replace_block-raised-requires c =
    let a = c.args in
    let l = c.loop-i in
    let k = c.least-k.result in
    let at_once = c.staged_at_once-at_once.ensures in
    let low : a.destination_size ≤ a.source_size = c.requires.5 in
    let within : l.i + k ≤ a.count = omega (arith, c.least-k.ensures.2, l.invariant.0) in
    let few : k ≤ c.staged_at_once-at_once.result = c.least-k.ensures.1 in
    let rows = block_rows l.i k a.count a.source_size within in
    let tabled = c.requires.1 _ _ (job_ready c.requires.0) in
    let places = block_rows l.i k a.count a.destination_size within in (
      (a.words.now, job_ready c.requires.0, tabled.1, tabled.0),
      c.requires.2,
      c.requires.3,
      l.invariant.6,
      omega arith,
      omega (arith, few, at_once.1),
      omega arith,
      omega arith,
      omega (arith, mul-le-mul_right a.source_size few, at_once.2),
      omega (arith, rows),
      omega (arith, places, mul-le-mul_left a.count low),
      omega (arith, places),
      c.is_whole-whole.ensures,
    )

pub overflow_add-raised : goal.overflow_add-raised
overflow_add-raised c =
    let counted : c.loop-i.raised + c.replace_block-raised.result ≤ 268435456 =
    let a = c.args in let l = c.loop-i in let k = c.least-k.result in let o = c.replace_block-raised in let few = c.least-k.ensures.2 in let within : l.i + k ≤ a.count = omega (arith, few, l.invariant.0) in let turned = up_placed c.requires.0 a.count a.buf.now a.background.now c.requires.8 l.i k l.raised o.result l.buf _ within l.invariant.1 (λ t. o.ensures.0 a.words.now t (c.requires.1 _ _ t).1 (c.requires.1 _ _ t).0) c.requires.7 c.requires.5 (l.invariant.7 c.requires.0) in omega (arith, turned.2, all_most c.requires.0 a.buf.now (l.i + k), c.requires.4) in
    omega (arith, counted)

pub loop-i-preserved : goal.loop-i-preserved
loop-i-preserved c =
    let a = c.args in
    let l = c.loop-i in
    let k = c.least-k.result in
    let o = c.replace_block-raised in
    let few = c.least-k.ensures.2 in
    let within : l.i + k ≤ a.count = omega (arith, few, l.invariant.0) in (
      omega (arith, within),
      o.auto.buf ∙ l.invariant.1,
      o.auto.staging ∙ l.invariant.2,
      o.auto.slots ∙ l.invariant.3,
      o.auto.narrow ∙ l.invariant.4,
      o.auto.wide ∙ l.invariant.5,
      o.ensures.1,
      λ j. up_placed j a.count a.buf.now a.background.now c.requires.8 l.i k l.raised o.result l.buf _ within l.invariant.1 (λ t. o.ensures.0 a.words.now t (c.requires.1 _ _ t).1 (c.requires.1 _ _ t).0) c.requires.7 c.requires.5 (l.invariant.7 j),
    )

pub shape_of-buf : goal.shape_of-buf
shape_of-buf c = c.loop-i.invariant.1

pub shape_of-staging : goal.shape_of-staging
shape_of-staging c = c.loop-i.invariant.2

pub returns : goal.returns
returns c = (c.loop-i.invariant.0, c.loop-i.invariant.7)
