-- `piece_moves::move_each` meets its contract. The loop's invariant: the piece is moved in the first i records. Assumes nothing.
use mathlib.Core.Path.{◌≡◌, refl, ◌∙◌}
use Prim.Native.Nat.{◌+◌, ◌*◌, ◌≤◌, ◌-◌}
use native.Mathlib.Omega.{arith}
use lib.ListN.{length}
use Rattle.easy.proofs.Lent.{lent_room, lent_length}
use Rattle.loops.proofs.Lists.{row_within}
use Rattle.blocks.proofs.Turns.{each_start}
use Rattle.piece_moves.proofs.Moves.{piece_turn}
use Rattle.piece_moves.proofs.move_each.Lts as lts
use Rattle.piece_moves.proofs.move_each.Reads as reads
use Rattle.piece_moves.proofs.move_each.Tie as tie
use Rattle.piece_moves.proofs.move_each.Goals as goal

-- record i lies within both
rows : (c : lts.In-loop tie.the-claims reads.Pre reads.Post goal.the-invariant-loop-i goal.the-decreases-loop-i)
    → (let a = c.args in let i = c.loop-i.i in (i * a.source_size + a.source_size ≤ a.count * a.source_size) × (i * a.destination_size + a.destination_size ≤ a.count * a.destination_size))
rows c =
    let a = c.args in
    (row_within a.source_size c.loop-i-test.true, row_within a.destination_size c.loop-i-test.true)

pub loop-i-init : goal.loop-i-init
loop-i-init c = (refl, each_start _ _ _)

pub overflow_mul-i : goal.overflow_mul-i
overflow_mul-i c = omega (arith, rows c.before)

pub slice_bounds-move_bytes-count : goal.slice_bounds-move_bytes-count
slice_bounds-move_bytes-count c = omega (arith, rows c.before)

pub slice_bounds-move_bytes-start : goal.slice_bounds-move_bytes-start
slice_bounds-move_bytes-start c = omega (arith, rows c.before)

pub overflow_mul-i-in-loop-i : goal.overflow_mul-i-in-loop-i
overflow_mul-i-in-loop-i c = omega (arith, rows c.before.before)

pub slice_bounds-move_bytes-count-in-loop-i : goal.slice_bounds-move_bytes-count-in-loop-i
slice_bounds-move_bytes-count-in-loop-i c = omega (arith, rows c.before.before)

pub slice_bounds-move_bytes-start-in-loop-i : goal.slice_bounds-move_bytes-start-in-loop-i
slice_bounds-move_bytes-start-in-loop-i c = omega (arith, rows c.before.before)

pub move_bytes-requires : goal.move_bytes-requires
move_bytes-requires c =
    let a = c.args in
    let l = c.loop-i in (
      c.requires.0,
      lent_room (l.i * a.source_size) (a.source_byte + a.bytes) a.src.now (omega (arith, (rows c.before.before.before).0, c.requires.1, c.requires.3)),
      lent_room (l.i * a.destination_size) (a.destination_byte + a.bytes) l.dst (omega (arith, (rows c.before.before.before).1, c.requires.2, c.requires.4, l.invariant.0)),
    )

pub loop-i-preserved : goal.loop-i-preserved
loop-i-preserved c =
    let a = c.args in
    let l = c.loop-i in
    let low : l.i * a.source_size + a.source_size ≤ length a.src.now = omega (arith, (rows c.before.before.before.before.before.before).0, c.requires.3) in
    let high : l.i * a.destination_size + a.destination_size ≤ length l.dst = omega (arith, (rows c.before.before.before.before.before.before).1, c.requires.4, l.invariant.0) in (
      lent_length (l.i * a.destination_size) l.dst c.move_bytes.new.dst (omega arith) c.move_bytes.auto.dst ∙ l.invariant.0,
      piece_turn a.bytes a.destination_byte a.source_byte a.source_size a.destination_size a.src.now l.i a.dst.now l.dst c.move_bytes.new.dst low high c.requires.1 c.requires.2 l.invariant.1 c.move_bytes.ensures,
    )

pub shape_of-dst : goal.shape_of-dst
shape_of-dst c = c.loop-i.invariant.0

pub returns : goal.returns
returns c =
    let l = c.loop-i in
    let end : l.i ≡ c.args.count = omega arith in
    rw end at l.invariant.1
