-- `block_columns::block` meets its contract. The invariant: what is left to write and to count, from entry i on. Assumes nothing.
use mathlib.Core.Path.{refl, ◌∙◌}
use Prim.Native.Nat.{◌-◌}
use native.Mathlib.Omega.{arith}
use Rattle.plans.specs.PlanWords.{words_place}
use Rattle.plans.proofs.Entries.{entry_room_lem}
use Rattle.piece_moves.proofs.Runs.{over_run}
use Rattle.block_columns.proofs.Entries.{entry_by, column_by, kept_by, over_still}
use Rattle.blocks.proofs.Over.{over_start, over_turn, over_end}
use Rattle.block_columns.proofs.block.Goals as goal

pub loop-i-init : goal.loop-i-init
loop-i-init c = (omega arith, refl, refl, refl, refl, omega arith, c.requires.2, λ words p has kept. over_start _ _ _ _ _ _ _ p _ _ _)

pub block_step-moved-requires : goal.block_step-moved-requires
block_step-moved-requires c =
    let job = c.requires.0 in
    ((job.0, job.1), c.loop-i-test.true, c.requires.7, omega (arith, c.loop-i.invariant.1, c.requires.8))

pub entry-e-requires : goal.entry-e-requires
entry-e-requires c = entry_room_lem _ _ _ _ _ _ _ c.requires.0.1 c.loop-i.i c.loop-i-test.true

pub entry_column-raised-requires : goal.entry_column-raised-requires
entry_column-raised-requires c =
    let l = c.loop-i in
    let here = c.loop-i-test.true in
    let is = c.entry-e.ensures.0 in
    let a = c.args in
    let job = c.requires.0 in
    let entry = entry_by job.1 l.i here is a.tables.now job.3 in (
      (l.i, job.0, entry.0, column_by a.tables.now job.0 (words_place l.i) a.plan.now l.i is (job.2 l.i here), entry.1),
      c.requires.1,
      l.invariant.6,
      omega (arith, l.invariant.2, c.requires.3),
      c.requires.4,
      omega (arith, l.invariant.3, c.requires.5),
      omega (arith, l.invariant.4, c.requires.6),
      c.requires.7,
      omega (arith, c.block_step-moved.auto.dst, l.invariant.1, c.requires.8),
    )

pub overflow_add-raised : goal.overflow_add-raised
overflow_add-raised c = omega (arith, c.requires.0.1.most, c.requires.4, c.loop-i.invariant.5, c.loop-i-test.true, c.entry_column-raised.ensures.1)

pub overflow_add-i : goal.overflow_add-i
overflow_add-i c = omega (arith, c.loop-i-test.true, c.requires.0.1.most)

pub loop-i-smaller-then-moved-eq0 : goal.loop-i-smaller-then-moved-eq0
loop-i-smaller-then-moved-eq0 c = omega (arith, c.loop-i-test.true)

pub loop-i-preserved-then-moved-eq0 : goal.loop-i-preserved-then-moved-eq0
loop-i-preserved-then-moved-eq0 c =
    let l = c.loop-i in
    let a = c.args in
    let step = c.block_step-moved in
    let none = c.if-moved-eq0.true in
    let is = c.entry-e.ensures.0 in
    let call = c.entry_column-raised in
    let here = c.loop-i-test.true in (
      omega (arith, here),
      call.auto.dst ∙ step.auto.dst ∙ l.invariant.1,
      call.auto.slots ∙ l.invariant.2,
      call.auto.narrow ∙ l.invariant.3,
      call.auto.wide ∙ l.invariant.4,
      omega (arith, l.invariant.5, c.requires.4, call.ensures.1),
      call.ensures.2,
      λ words p has kept.
          let stepped = over_run p a.src.now a.count a.dst.now l.i step.result l.raised l.dst step.new.dst step.ensures.0 (l.invariant.7 words p has kept) (step.ensures.1 words p) in
          over_turn _ _ _ _ _ _ _ p _ _ _ l.i l.raised call.result step.new.dst call.new.dst here (over_still p a.src.now a.count a.dst.now l.i step.result step.new.dst l.raised none stepped) is (λ q texts. call.ensures.0 l.i words q (column_by a.tables.now words (words_place l.i) a.plan.now l.i is (has l.i here)) (kept_by p q texts a.tables.now kept)),
    )

pub overflow_add-i-else-moved-eq0 : goal.overflow_add-i-else-moved-eq0
overflow_add-i-else-moved-eq0 c = omega (arith, c.block_step-moved.ensures.0, c.requires.0.1.most)

pub loop-i-smaller : goal.loop-i-smaller
loop-i-smaller c = omega (arith, c.block_step-moved.ensures.0, c.loop-i-test.true, c.if-moved-eq0.false)

pub loop-i-preserved : goal.loop-i-preserved
loop-i-preserved c =
    let l = c.loop-i in
    let a = c.args in
    let step = c.block_step-moved in (
      step.ensures.0,
      step.auto.dst ∙ l.invariant.1,
      l.invariant.2,
      l.invariant.3,
      l.invariant.4,
      omega (arith, l.invariant.5),
      l.invariant.6,
      λ words p has kept. over_run p a.src.now a.count a.dst.now l.i step.result l.raised l.dst step.new.dst step.ensures.0 (l.invariant.7 words p has kept) (step.ensures.1 words p),
    )

pub shape_of-dst : goal.shape_of-dst
shape_of-dst c = c.loop-i.invariant.1

pub shape_of-slots : goal.shape_of-slots
shape_of-slots c = c.loop-i.invariant.2

pub shape_of-narrow : goal.shape_of-narrow
shape_of-narrow c = c.loop-i.invariant.3

pub shape_of-wide : goal.shape_of-wide
shape_of-wide c = c.loop-i.invariant.4

pub returns : goal.returns
returns c =
    let l = c.loop-i in
    ((λ words p has kept. over_end _ _ _ _ _ _ _ p _ _ _ l.i l.raised l.dst (omega arith) (l.invariant.7 words p has kept)), l.invariant.6)
