-- `piece_moves::move_bytes` meets its contract: as one number or two. Assumes nothing.
use native.Mathlib.Omega.{arith}
use Rattle.piece_moves.proofs.Moves.{two_moved}
use Rattle.piece_moves.proofs.move_bytes.Goals as goal

pub returns : goal.returns
returns c =
    let a = c.args in
    two_moved a.dst.now a.src.now _ _ a.to a.from a.bytes (omega (arith, c.if-bytes-le8.false)) c.requires.1 c.requires.2 c.move_number-2.ensures c.move_number-3.ensures
