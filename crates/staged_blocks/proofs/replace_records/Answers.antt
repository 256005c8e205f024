-- `staged_blocks::replace_records` meets its contract. The invariant: the first j records of them are made; where there is a second block, the results lie behind the sources. Assumes nothing.
use mathlib.Core.Path.{◌≡◌, refl, ◌∙◌}
use mathlib.Core.List.{List}
use Prim.Native.Nat.{ℕ, ◌+◌, ◌*◌, ◌-◌, ◌≤◌}
use native.Mathlib.Nat.{add-mul, mul-le-mul_right}
use native.Mathlib.Omega.{arith}
use lib.ListN.{take, drop}
use Rattle.plans.specs.PlanWords.{Ready}
use Rattle.symbol_slots.specs.Tables.{TablesKept, Columned}
use Rattle.blocks.proofs.BlockTurns.{block_rows}
use Rattle.block_parts.proofs.Chunks.{raised_few}
use Rattle.staged_blocks.proofs.After.{Made, made_none, made_more}
use Rattle.staged_blocks.proofs.replace_records.Goals as goal

pub loop-j-init : goal.loop-j-init
loop-j-init c =
    let a = c.args in
    (omega arith, refl, refl, refl, refl, refl, c.requires.3, (λ some. absurd (omega (arith, some))), λ words p has kept. made_none p a.buf.now a.background.now a.i)

pub least-more-requires : goal.least-more-requires
least-more-requires c = (c.requires.8.0, omega (arith, c.loop-j-test.true))

pub overflow_add-i : goal.overflow_add-i
overflow_add-i c = omega (arith, c.requires.5, c.loop-j-test.true)

pub replace_block-raised-requires : goal.replace_block-raised-requires
replace_block-raised-requires c =
    let a = c.args in
    let l = c.loop-j in
    let more = c.least-more.result in
    let few = c.least-more.ensures in
    let within : a.i + l.j + more ≤ a.i + a.k = omega (arith, few.2, c.loop-j-test.true) in
    let reads = block_rows (a.i + l.j) more (a.i + a.k) a.source_size within in
    let writes = block_rows (a.i + l.j) more (a.i + a.k) a.destination_size within in
    let source = add-mul a.i a.k a.source_size in
    let destination = add-mul a.i a.k a.destination_size in (
      c.requires.0,
      c.requires.1,
      c.requires.2,
      l.invariant.6,
      omega (arith, l.invariant.3, c.requires.4),
      omega (arith, few.1, c.requires.8.1),
      omega (arith, l.invariant.4, c.requires.6),
      omega (arith, l.invariant.5, c.requires.7),
      omega (arith, l.invariant.2, mul-le-mul_right a.source_size few.1, c.requires.8.2),
      omega (arith, l.invariant.1, reads, source, c.requires.9),
      omega (arith, l.invariant.1, writes, destination, c.requires.10),
      omega (arith, writes, destination, c.requires.11),
      c.requires.12,
    )

pub overflow_add-raised : goal.overflow_add-raised
overflow_add-raised c =
    let next : (let a = c.args in let l = c.loop-j in let more = c.least-more.result in (words : List ℕ) (p : Ready a.source_size a.destination_size a.plan.now a.entries a.source_half.now a.destination_half.now words) → Columned a.tables.now a.plan.now a.entries words → TablesKept a.tables.now a.source_half.now p.source_text a.destination_half.now p.destination_text → Made p a.buf.now a.background.now a.i (l.j + more) c.replace_block-raised.new.buf (l.raised + c.replace_block-raised.result)) =
    λ words p has kept. let a = c.args in let l = c.loop-j in let more = c.least-more.result in let test = c.loop-j-test.true in let within : l.j + more ≤ a.k = omega (arith, c.least-more.ensures.2, test) in let reads = block_rows l.j more a.k a.source_size within in let writes = block_rows l.j more a.k a.destination_size within in made_more p a.buf.now a.background.now a.i l.j more (omega (arith, reads, c.requires.9)) (omega (arith, writes, c.requires.10)) (omega (arith, writes, c.requires.11)) (λ some. omega (arith, reads, c.requires.13 (l.invariant.7 some test))) (l.invariant.8 words p has kept) (c.replace_block-raised.ensures.0 words p has kept) in
    let a = c.args in
    let l = c.loop-j in
    let more = c.least-more.result in
    let p = c.requires.0.1 in
    omega (arith, (next c.requires.0.0 p c.requires.0.2 c.requires.0.3).1, raised_few p (take ((l.j + more) * a.source_size) (drop (a.i * a.source_size) a.buf.now)) (l.j + more), c.least-more.ensures.2, c.loop-j-test.true, c.requires.5)

pub overflow_add-j : goal.overflow_add-j
overflow_add-j c = omega (arith, c.requires.5, c.least-more.ensures.2, c.loop-j-test.true)

pub loop-j-smaller : goal.loop-j-smaller
loop-j-smaller c = omega (arith, c.least-more.ensures, c.loop-j-test.true)

pub loop-j-preserved : goal.loop-j-preserved
loop-j-preserved c =
    let next : (let a = c.args in let l = c.loop-j in let more = c.least-more.result in (words : List ℕ) (p : Ready a.source_size a.destination_size a.plan.now a.entries a.source_half.now a.destination_half.now words) → Columned a.tables.now a.plan.now a.entries words → TablesKept a.tables.now a.source_half.now p.source_text a.destination_half.now p.destination_text → Made p a.buf.now a.background.now a.i (l.j + more) c.replace_block-raised.new.buf (l.raised + c.replace_block-raised.result)) =
    λ words p has kept. let a = c.args in let l = c.loop-j in let more = c.least-more.result in let test = c.loop-j-test.true in let within : l.j + more ≤ a.k = omega (arith, c.least-more.ensures.2, test) in let reads = block_rows l.j more a.k a.source_size within in let writes = block_rows l.j more a.k a.destination_size within in made_more p a.buf.now a.background.now a.i l.j more (omega (arith, reads, c.requires.9)) (omega (arith, writes, c.requires.10)) (omega (arith, writes, c.requires.11)) (λ some. omega (arith, reads, c.requires.13 (l.invariant.7 some test))) (l.invariant.8 words p has kept) (c.replace_block-raised.ensures.0 words p has kept) in
    let l = c.loop-j in
    let least = c.least-more.ensures in
    let test = c.loop-j-test.true in
    let o = c.replace_block-raised in (
      omega (arith, least.2, test),
      o.auto.buf ∙ l.invariant.1,
      o.auto.staging ∙ l.invariant.2,
      o.auto.slots ∙ l.invariant.3,
      o.auto.narrow ∙ l.invariant.4,
      o.auto.wide ∙ l.invariant.5,
      o.ensures.1,
      (λ some left. omega (arith, least.3 (omega (arith, left)), left)),
      next,
    )

pub shape_of-buf : goal.shape_of-buf
shape_of-buf c = c.loop-j.invariant.1

pub shape_of-staging : goal.shape_of-staging
shape_of-staging c = c.loop-j.invariant.2

pub shape_of-slots : goal.shape_of-slots
shape_of-slots c = c.loop-j.invariant.3

pub shape_of-narrow : goal.shape_of-narrow
shape_of-narrow c = c.loop-j.invariant.4

pub shape_of-wide : goal.shape_of-wide
shape_of-wide c = c.loop-j.invariant.5

pub returns : goal.returns
returns c =
    let l = c.loop-j in
    let end : c.args.k ≡ l.j = omega (arith, l.invariant.0, c.loop-j-test.false) in
    ((λ words p has kept. rw end (l.invariant.8 words p has kept)), l.invariant.6)
