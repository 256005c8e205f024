-- `piece_moves::piece_column` meets its contract. The loop's invariant: the first k bytes of the piece are moved in all records. Assumes nothing.
use mathlib.Core.Path.{◌≡◌, refl, ap, ◌∙◌}
use mathlib.Core.List.{List}
use Prim.Native.Nat.{ℕ, ◌+◌, ◌-◌, ◌≤◌}
use native.Mathlib.Omega.{arith}
use Rattle.piece_moves.specs.Pieces.{each_piece}
use Rattle.piece_moves.proofs.Moves.{piece_none, pieces_join}
use Rattle.piece_moves.proofs.piece_column.Lts as lts
use Rattle.piece_moves.proofs.piece_column.Reads as reads
use Rattle.piece_moves.proofs.piece_column.Tie as tie
use Rattle.piece_moves.proofs.piece_column.Goals as goal

-- the next bytes lie within the piece
within : (c : lts.After-next_bytes tie.the-claims reads.Pre reads.Post goal.the-invariant-loop-k goal.the-decreases-loop-k) → c.loop-k.k + c.next_bytes-n.result ≤ c.args.bytes
within c = omega (arith, c.next_bytes-n.ensures, c.loop-k-test.true)

pub loop-k-init : goal.loop-k-init
loop-k-init c =
    let a = c.args in
    (omega arith, refl, piece_none a.destination_byte a.source_byte a.source_size a.destination_size a.src.now a.count a.dst.now)

pub overflow_add-destination_byte : goal.overflow_add-destination_byte
overflow_add-destination_byte c = omega (arith, within c.before.before)

pub overflow_add-source_byte : goal.overflow_add-source_byte
overflow_add-source_byte c = omega (arith, within c.before.before)

pub move_column-requires : goal.move_column-requires
move_column-requires c =
    let l = c.loop-k in
    let w = within c.before.before in (
      c.next_bytes-n.ensures.2,
      omega (arith, w, c.requires.0),
      omega (arith, w, c.requires.1),
      c.requires.2,
      omega (arith, c.requires.3, l.invariant.1),
    )

pub overflow_add-k : goal.overflow_add-k
overflow_add-k c = omega (arith, within c.before.before.before.before.before)

pub loop-k-smaller : goal.loop-k-smaller
loop-k-smaller c = omega (arith, within c.before.before.before.before.before, c.next_bytes-n.ensures)

pub loop-k-preserved : goal.loop-k-preserved
loop-k-preserved c =
    let call = c.move_column in
    let a = c.args in
    let l = c.loop-k in
    let w = within c.before.before.before.before.before in (
      w,
      call.auto.dst ∙ l.invariant.1,
      call.ensures
          ∙ ap (λ (x : List ℕ). each_piece c.next_bytes-n.result (a.destination_byte + l.k) (a.source_byte + l.k) a.source_size a.destination_size a.src.now a.count x) l.invariant.2
          ∙ pieces_join a.source_size a.destination_size a.src.now a.count c.requires.2 l.k c.next_bytes-n.result a.destination_byte a.source_byte a.dst.now c.requires.3 (omega (arith, w, c.requires.0)) (omega (arith, w, c.requires.1)),
    )

pub shape_of-dst : goal.shape_of-dst
shape_of-dst c = c.loop-k.invariant.1

pub returns : goal.returns
returns c =
    let l = c.loop-k in
    let end : l.k ≡ c.args.bytes = omega arith in
    rw end at l.invariant.2
