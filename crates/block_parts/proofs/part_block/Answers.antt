-- `block_parts::part_block` meets its contract. The invariant: the first i records are written and counted. Assumes nothing.
use mathlib.Core.Path.{◌≡◌, refl, ◌∙◌}
use mathlib.Core.List.{List}
use Prim.Native.Nat.{ℕ, ◌+◌, ◌*◌, ◌-◌, ◌≤◌}
use native.Mathlib.Omega.{arith}
use borrow.Rule.Slice.PartMut.{put_mid}
use lib.ListN.{length}
use Rattle.easy.proofs.Lent.{lent_room, lent_length}
use Rattle.plans.specs.PlanWords.{Ready, entries_of}
use Rattle.blocks.specs.Blocks.{each_of, raised_over}
use Rattle.blocks.proofs.BlockTurns.{block_rows}
use Rattle.symbol_slots.specs.Tables.{TablesKept, Columned}
use Rattle.block_parts.proofs.Chunks.{raised_few, chunk_start, chunk_turn, chunk_end}
use Rattle.block_parts.proofs.part_block.Goals as goal

pub loop-i-init : goal.loop-i-init
loop-i-init c =
    let a = c.args in
    (omega arith, refl, refl, refl, refl, c.requires.2, λ words p has kept. chunk_start (entries_of p) a.source_size a.destination_size a.src.now a.dst.now)

pub least-k-requires : goal.least-k-requires
least-k-requires c = (omega arith, omega arith)

pub overflow_mul-i : goal.overflow_mul-i
overflow_mul-i c = omega (arith, (let h : (let a = c.args in let i = c.loop-i.i in let k = c.least-k.result in (i * a.source_size + k * a.source_size ≤ a.count * a.source_size) × (i * a.destination_size + k * a.destination_size ≤ a.count * a.destination_size) × (i + k ≤ a.count)) = let a = c.args in let i = c.loop-i.i in let k = c.least-k.result in let within : i + k ≤ a.count = omega (arith, c.least-k.ensures, c.loop-i-test.true) in (block_rows i k a.count a.source_size within, block_rows i k a.count a.destination_size within, within) in h))

pub slice_bounds-block-count : goal.slice_bounds-block-count
slice_bounds-block-count c = omega (arith, (let h : (let a = c.args in let i = c.loop-i.i in let k = c.least-k.result in (i * a.source_size + k * a.source_size ≤ a.count * a.source_size) × (i * a.destination_size + k * a.destination_size ≤ a.count * a.destination_size) × (i + k ≤ a.count)) = let a = c.args in let i = c.loop-i.i in let k = c.least-k.result in let within : i + k ≤ a.count = omega (arith, c.least-k.ensures, c.loop-i-test.true) in (block_rows i k a.count a.source_size within, block_rows i k a.count a.destination_size within, within) in h))

pub slice_bounds-block-start : goal.slice_bounds-block-start
slice_bounds-block-start c = omega (arith, (let h : (let a = c.args in let i = c.loop-i.i in let k = c.least-k.result in (i * a.source_size + k * a.source_size ≤ a.count * a.source_size) × (i * a.destination_size + k * a.destination_size ≤ a.count * a.destination_size) × (i + k ≤ a.count)) = let a = c.args in let i = c.loop-i.i in let k = c.least-k.result in let within : i + k ≤ a.count = omega (arith, c.least-k.ensures, c.loop-i-test.true) in (block_rows i k a.count a.source_size within, block_rows i k a.count a.destination_size within, within) in h))

pub overflow_mul-i-in-loop-i : goal.overflow_mul-i-in-loop-i
overflow_mul-i-in-loop-i c = omega (arith, (let h : (let a = c.args in let i = c.loop-i.i in let k = c.least-k.result in (i * a.source_size + k * a.source_size ≤ a.count * a.source_size) × (i * a.destination_size + k * a.destination_size ≤ a.count * a.destination_size) × (i + k ≤ a.count)) = let a = c.args in let i = c.loop-i.i in let k = c.least-k.result in let within : i + k ≤ a.count = omega (arith, c.least-k.ensures, c.loop-i-test.true) in (block_rows i k a.count a.source_size within, block_rows i k a.count a.destination_size within, within) in h))

pub slice_bounds-block-count-in-loop-i : goal.slice_bounds-block-count-in-loop-i
slice_bounds-block-count-in-loop-i c = omega (arith, (let h : (let a = c.args in let i = c.loop-i.i in let k = c.least-k.result in (i * a.source_size + k * a.source_size ≤ a.count * a.source_size) × (i * a.destination_size + k * a.destination_size ≤ a.count * a.destination_size) × (i + k ≤ a.count)) = let a = c.args in let i = c.loop-i.i in let k = c.least-k.result in let within : i + k ≤ a.count = omega (arith, c.least-k.ensures, c.loop-i-test.true) in (block_rows i k a.count a.source_size within, block_rows i k a.count a.destination_size within, within) in h))

pub slice_bounds-block-start-in-loop-i : goal.slice_bounds-block-start-in-loop-i
slice_bounds-block-start-in-loop-i c = omega (arith, (let h : (let a = c.args in let i = c.loop-i.i in let k = c.least-k.result in (i * a.source_size + k * a.source_size ≤ a.count * a.source_size) × (i * a.destination_size + k * a.destination_size ≤ a.count * a.destination_size) × (i + k ≤ a.count)) = let a = c.args in let i = c.loop-i.i in let k = c.least-k.result in let within : i + k ≤ a.count = omega (arith, c.least-k.ensures, c.loop-i-test.true) in (block_rows i k a.count a.source_size within, block_rows i k a.count a.destination_size within, within) in h))

pub block-raised-requires : goal.block-raised-requires
block-raised-requires c =
    let a = c.args in
    let l = c.loop-i in
    let least = c.least-k in
    let r = (let h : (let a = c.args in let i = c.loop-i.i in let k = c.least-k.result in (i * a.source_size + k * a.source_size ≤ a.count * a.source_size) × (i * a.destination_size + k * a.destination_size ≤ a.count * a.destination_size) × (i + k ≤ a.count)) = let a = c.args in let i = c.loop-i.i in let k = c.least-k.result in let within : i + k ≤ a.count = omega (arith, c.least-k.ensures, c.loop-i-test.true) in (block_rows i k a.count a.source_size within, block_rows i k a.count a.destination_size within, within) in h) in (
      c.requires.0,
      c.requires.1,
      l.invariant.5,
      omega (arith, l.invariant.2, c.requires.3),
      omega (arith, least.ensures),
      omega (arith, l.invariant.3, least.ensures, c.requires.5),
      omega (arith, l.invariant.4, least.ensures, c.requires.6),
      lent_room (l.i * a.source_size) (least.result * a.source_size) a.src.now (omega (arith, r.0, c.requires.7)),
      lent_room (l.i * a.destination_size) (least.result * a.destination_size) l.dst (omega (arith, r.1, l.invariant.1, c.requires.8)),
    )

pub overflow_add-raised : goal.overflow_add-raised
overflow_add-raised c =
    let a = c.args in
    let l = c.loop-i in
    let p = c.requires.0.1 in
    omega (arith, ((let h : (let a = c.args in let l = c.loop-i in let k = c.least-k.result in (words : List ℕ) (p : Ready a.source_size a.destination_size a.plan.now a.entries a.source_half.now a.destination_half.now words) → Columned a.tables.now a.plan.now a.entries words → TablesKept a.tables.now a.source_half.now p.source_text a.destination_half.now p.destination_text → (put_mid (l.i * a.destination_size) (length l.dst - l.i * a.destination_size) l.dst c.block-raised.new.dst ≡ each_of (entries_of p) a.source_size a.destination_size a.src.now (l.i + k) a.dst.now) × (l.raised + c.block-raised.result ≡ raised_over (entries_of p) a.source_size a.src.now (l.i + k))) = λ words p has kept. let a = c.args in let l = c.loop-i in chunk_turn p a.src.now a.dst.now l.i c.least-k.result (omega (arith, ((let h : (let a = c.args in let i = c.loop-i.i in let k = c.least-k.result in (i * a.source_size + k * a.source_size ≤ a.count * a.source_size) × (i * a.destination_size + k * a.destination_size ≤ a.count * a.destination_size) × (i + k ≤ a.count)) = let a = c.args in let i = c.loop-i.i in let k = c.least-k.result in let within : i + k ≤ a.count = omega (arith, c.least-k.ensures, c.loop-i-test.true) in (block_rows i k a.count a.source_size within, block_rows i k a.count a.destination_size within, within) in h)).1, c.requires.8)) (l.invariant.6 words p has kept) (c.block-raised.ensures.0 words p has kept) in h) c.requires.0.0 p c.requires.0.2 c.requires.0.3).1, raised_few p a.src.now (l.i + c.least-k.result), ((let h : (let a = c.args in let i = c.loop-i.i in let k = c.least-k.result in (i * a.source_size + k * a.source_size ≤ a.count * a.source_size) × (i * a.destination_size + k * a.destination_size ≤ a.count * a.destination_size) × (i + k ≤ a.count)) = let a = c.args in let i = c.loop-i.i in let k = c.least-k.result in let within : i + k ≤ a.count = omega (arith, c.least-k.ensures, c.loop-i-test.true) in (block_rows i k a.count a.source_size within, block_rows i k a.count a.destination_size within, within) in h)).2, c.requires.4)

pub overflow_add-i : goal.overflow_add-i
overflow_add-i c = omega (arith, ((let h : (let a = c.args in let i = c.loop-i.i in let k = c.least-k.result in (i * a.source_size + k * a.source_size ≤ a.count * a.source_size) × (i * a.destination_size + k * a.destination_size ≤ a.count * a.destination_size) × (i + k ≤ a.count)) = let a = c.args in let i = c.loop-i.i in let k = c.least-k.result in let within : i + k ≤ a.count = omega (arith, c.least-k.ensures, c.loop-i-test.true) in (block_rows i k a.count a.source_size within, block_rows i k a.count a.destination_size within, within) in h)).2)

pub loop-i-smaller : goal.loop-i-smaller
loop-i-smaller c = omega (arith, ((let h : (let a = c.args in let i = c.loop-i.i in let k = c.least-k.result in (i * a.source_size + k * a.source_size ≤ a.count * a.source_size) × (i * a.destination_size + k * a.destination_size ≤ a.count * a.destination_size) × (i + k ≤ a.count)) = let a = c.args in let i = c.loop-i.i in let k = c.least-k.result in let within : i + k ≤ a.count = omega (arith, c.least-k.ensures, c.loop-i-test.true) in (block_rows i k a.count a.source_size within, block_rows i k a.count a.destination_size within, within) in h)).2, c.least-k.ensures)

pub loop-i-preserved : goal.loop-i-preserved
loop-i-preserved c =
    let a = c.args in
    let l = c.loop-i in
    let call = c.block-raised in
    let r = (let h : (let a = c.args in let i = c.loop-i.i in let k = c.least-k.result in (i * a.source_size + k * a.source_size ≤ a.count * a.source_size) × (i * a.destination_size + k * a.destination_size ≤ a.count * a.destination_size) × (i + k ≤ a.count)) = let a = c.args in let i = c.loop-i.i in let k = c.least-k.result in let within : i + k ≤ a.count = omega (arith, c.least-k.ensures, c.loop-i-test.true) in (block_rows i k a.count a.source_size within, block_rows i k a.count a.destination_size within, within) in h) in (
      r.2,
      lent_length (l.i * a.destination_size) l.dst call.new.dst (omega (arith, r.1, l.invariant.1, c.requires.8)) call.auto.dst ∙ l.invariant.1,
      call.auto.slots ∙ l.invariant.2,
      call.auto.narrow ∙ l.invariant.3,
      call.auto.wide ∙ l.invariant.4,
      call.ensures.1,
      (let h : (let a = c.args in let l = c.loop-i in let k = c.least-k.result in (words : List ℕ) (p : Ready a.source_size a.destination_size a.plan.now a.entries a.source_half.now a.destination_half.now words) → Columned a.tables.now a.plan.now a.entries words → TablesKept a.tables.now a.source_half.now p.source_text a.destination_half.now p.destination_text → (put_mid (l.i * a.destination_size) (length l.dst - l.i * a.destination_size) l.dst c.block-raised.new.dst ≡ each_of (entries_of p) a.source_size a.destination_size a.src.now (l.i + k) a.dst.now) × (l.raised + c.block-raised.result ≡ raised_over (entries_of p) a.source_size a.src.now (l.i + k))) = λ words p has kept. let a = c.args in let l = c.loop-i in chunk_turn p a.src.now a.dst.now l.i c.least-k.result (omega (arith, ((let h : (let a = c.args in let i = c.loop-i.i in let k = c.least-k.result in (i * a.source_size + k * a.source_size ≤ a.count * a.source_size) × (i * a.destination_size + k * a.destination_size ≤ a.count * a.destination_size) × (i + k ≤ a.count)) = let a = c.args in let i = c.loop-i.i in let k = c.least-k.result in let within : i + k ≤ a.count = omega (arith, c.least-k.ensures, c.loop-i-test.true) in (block_rows i k a.count a.source_size within, block_rows i k a.count a.destination_size within, within) in h)).1, c.requires.8)) (l.invariant.6 words p has kept) (c.block-raised.ensures.0 words p has kept) in h),
    )

pub shape_of-dst : goal.shape_of-dst
shape_of-dst c = c.loop-i.invariant.1

pub shape_of-slots : goal.shape_of-slots
shape_of-slots c = c.loop-i.invariant.2

pub shape_of-narrow : goal.shape_of-narrow
shape_of-narrow c = c.loop-i.invariant.3

pub shape_of-wide : goal.shape_of-wide
shape_of-wide c = c.loop-i.invariant.4

pub returns : goal.returns
returns c =
    let a = c.args in
    let l = c.loop-i in
    ((λ words p has kept. chunk_end p a.src.now a.dst.now l.invariant.0 (omega arith) (l.invariant.6 words p has kept)), l.invariant.5)
