-- `whole_moves::move_each` meets its contract. The loop's invariant: the first i records are written, and x and y are where record i begins. Assumes nothing.
use Rattle.std.proofs.Common.{◌≡◌, ◌+◌, ◌-◌, ◌*◌, ◌≤◌, length, refl, ◌∙◌, arith}
use Rattle.easy.proofs.Lent.{lent_room, lent_length}
use Rattle.loops.proofs.Lists.{row_within}
use Rattle.blocks.proofs.Turns.{each_start}
use Rattle.whole_moves.proofs.Moving.{next_row, move_turn, move_end}
use Rattle.whole_moves.proofs.move_each.Goals as goal

pub loop-i-init : goal.loop-i-init
loop-i-init c = (omega arith, omega arith, refl, each_start _ _ _)

pub slice_bounds-load-count : goal.slice_bounds-load-count
slice_bounds-load-count c = omega (arith, c.loop-i.invariant.0, (row_within c.args.source_size c.loop-i-test.true))

pub slice_bounds-load-start : goal.slice_bounds-load-start
slice_bounds-load-start c = omega (arith, c.loop-i.invariant.0, (row_within c.args.source_size c.loop-i-test.true))

pub slice_bounds-load-end : goal.slice_bounds-load-end
slice_bounds-load-end c = omega (arith, c.loop-i.invariant.0, (row_within c.args.source_size c.loop-i-test.true))

pub load-c-requires : goal.load-c-requires
load-c-requires c =
    let a = c.args in
    let l = c.loop-i in
    (omega arith, lent_room l.x (a.source_byte + a.n) a.src.now (omega (arith, l.invariant.0, (row_within c.args.source_size c.loop-i-test.true))))

pub slice_bounds-store-count : goal.slice_bounds-store-count
slice_bounds-store-count c = omega (arith, c.loop-i.invariant.1, c.loop-i.invariant.2, (row_within c.args.destination_size c.loop-i-test.true))

pub slice_bounds-store-start : goal.slice_bounds-store-start
slice_bounds-store-start c = omega (arith, c.loop-i.invariant.1, c.loop-i.invariant.2, (row_within c.args.destination_size c.loop-i-test.true))

pub slice_bounds-store-end : goal.slice_bounds-store-end
slice_bounds-store-end c = omega (arith, c.loop-i.invariant.1, c.loop-i.invariant.2, (row_within c.args.destination_size c.loop-i-test.true))

pub moved-requires : goal.moved-requires
moved-requires c = (omega arith, omega arith)

pub store-requires : goal.store-requires
store-requires c =
    let a = c.args in
    let l = c.loop-i in
    (omega arith, lent_room l.y (a.destination_byte + a.m) l.dst (omega (arith, l.invariant.1, l.invariant.2, (row_within c.args.destination_size c.loop-i-test.true))))

pub overflow_add-x : goal.overflow_add-x
overflow_add-x c = omega (arith, c.loop-i.invariant.0, (row_within c.args.source_size c.loop-i-test.true))

pub overflow_add-y : goal.overflow_add-y
overflow_add-y c = omega (arith, c.loop-i.invariant.1, c.loop-i.invariant.2, (row_within c.args.destination_size c.loop-i-test.true))

pub loop-i-preserved : goal.loop-i-preserved
loop-i-preserved c =
    let l = c.loop-i in
    let a = c.args in
    let low : l.i * a.destination_size + a.destination_size ≤ length l.dst = omega (arith, l.invariant.2, (row_within c.args.destination_size c.loop-i-test.true)) in (
      next_row l.i a.source_size l.invariant.0,
      next_row l.i a.destination_size l.invariant.1,
      lent_length l.y l.dst c.store.new.d (omega (arith, l.invariant.1)) c.store.auto.d ∙ l.invariant.2,
      move_turn a.w.source_order a.n a.w.order a.m a.w.half a.destination_byte a.source_byte a.source_size a.destination_size a.src.now
          l.i a.dst.now l.dst c.store.new.d l.invariant.0 l.invariant.1 low (omega arith) l.invariant.3 c.load-c.ensures.0 c.moved.ensures c.store.ensures,
    )

pub shape_of-dst : goal.shape_of-dst
shape_of-dst c = c.loop-i.invariant.2

pub returns : goal.returns
returns c =
    let l = c.loop-i in
    let a = c.args in
    let end : l.i ≡ a.count = omega arith in
    move_end a.w c.requires.2 a.n a.m a.destination_byte a.source_byte a.source_size a.destination_size a.src.now a.dst.now l.dst c.requires.3 c.requires.4 end l.invariant.3
