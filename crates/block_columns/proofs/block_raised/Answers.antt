-- `block_columns::block_raised` meets its contract. The invariant: what is left to count, from entry i on. Assumes nothing.
use mathlib.Core.Path.{refl, ◌∙◌}
use Prim.Native.Nat.{◌-◌}
use native.Mathlib.Omega.{arith}
use Rattle.plans.specs.PlanWords.{words_place}
use Rattle.plans.proofs.Entries.{entry_room_lem}
use Rattle.block_columns.proofs.Entries.{entry_by, column_by, kept_by}
use Rattle.blocks.proofs.Over.{count_start, count_turn, count_end}
use Rattle.block_columns.proofs.block_raised.Goals as goal

pub loop-i-init : goal.loop-i-init
loop-i-init c = (refl, refl, refl, omega arith, c.requires.2, λ d words p has kept. count_start _ _ _ _ _ _ _ p _ _)

pub entry-leaf-requires : goal.entry-leaf-requires
entry-leaf-requires c = entry_room_lem _ _ _ _ _ _ _ c.requires.0.2 c.loop-i.i (omega arith)

pub entry_raised-raised-requires : goal.entry_raised-raised-requires
entry_raised-raised-requires c =
    let l = c.loop-i in
    let here = c.loop-i-test.true in
    let a = c.args in
    let is = c.entry-leaf.ensures.0 in
    let job = c.requires.0 in
    let entry = entry_by job.2 l.i here is a.tables.now job.4 in (
      (job.0, l.i, job.1, entry.0, column_by a.tables.now job.1 (words_place l.i) a.plan.now l.i is (job.3 l.i here), entry.1),
      c.requires.1,
      l.invariant.4,
      omega arith,
      omega arith,
      omega arith,
      omega arith,
      omega arith,
    )

pub overflow_add-raised : goal.overflow_add-raised
overflow_add-raised c = omega (arith, c.requires.0.2.most, c.requires.4, c.loop-i.invariant.3, c.loop-i-test.true, c.entry_raised-raised.ensures.1)

pub loop-i-smaller : goal.loop-i-smaller
loop-i-smaller c = omega (arith, c.loop-i-test.true)

pub loop-i-preserved : goal.loop-i-preserved
loop-i-preserved c =
    let a = c.args in
    let l = c.loop-i in
    let e = c.entry-leaf in
    let call = c.entry_raised-raised in
    let here = c.loop-i-test.true in (
      call.auto.slots ∙ l.invariant.0,
      call.auto.narrow ∙ l.invariant.1,
      call.auto.wide ∙ l.invariant.2,
      omega (arith, l.invariant.3, c.requires.4, call.ensures.1),
      call.ensures.2,
      λ d words p has kept.
          count_turn _ _ _ _ _ _ _ p _ _ l.i l.raised call.result here (l.invariant.5 d words p has kept) e.ensures.0 (λ q texts. call.ensures.0 l.i words q (column_by a.tables.now words (words_place l.i) a.plan.now l.i e.ensures.0 (has l.i here)) (kept_by p q texts a.tables.now kept)),
    )

pub shape_of-slots : goal.shape_of-slots
shape_of-slots c = c.loop-i.invariant.0

pub shape_of-narrow : goal.shape_of-narrow
shape_of-narrow c = c.loop-i.invariant.1

pub shape_of-wide : goal.shape_of-wide
shape_of-wide c = c.loop-i.invariant.2

pub returns : goal.returns
returns c =
    let l = c.loop-i in (
      (λ d words p has kept. count_end _ _ _ _ _ _ _ p _ _ l.i l.raised (omega arith) (l.invariant.5 d words p has kept)),
      l.invariant.4,
    )
